use Rattle.std.proofs.Common.{◌≡◌}
use Rattle.std.specs.List.{range_with_len, flat_map}
use Rattle.dependence.specs.Systems.{refs_of}
use Rattle.dependence.proofs.pairs.refs.Given as goal

abbrev pub invariant-loop-rank : goal.invariant-loop-rank
invariant-loop-rank g l = l.found.items ≡ flat_map (refs_of l.pred) (range_with_len 0 l.rank)
