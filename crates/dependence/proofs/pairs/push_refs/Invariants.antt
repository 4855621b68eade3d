use Rattle.std.proofs.Common.{◌≡◌, ◌++◌, map}
use Rattle.std.specs.List.{range_with_len}
use Rattle.dependence.proofs.PairLaws.{ref_at}
use Rattle.dependence.proofs.pairs.push_refs.Given as goal

abbrev pub invariant-loop-number : goal.invariant-loop-number
invariant-loop-number g l = l.found.items ≡ l.initial.found.items ++ map (ref_at l.rank) (range_with_len 1 l.number)
