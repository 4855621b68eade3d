use Rattle.std.proofs.Common.{◌≡◌, ◌++◌}
use Rattle.std.specs.List.{flat_map, range_with_len}
use Rattle.listing.proofs.CandidateLaws.{standard_at}
use Rattle.listing.proofs.fitted.Fitted.list_standard.Given as goal

abbrev pub invariant-loop-place : goal.invariant-loop-place
invariant-loop-place g l = l.lines.items ≡ l.initial.lines.items ++ flat_map (standard_at l.self.nest.now.loops l.self.pred.now l.self.length g.row.D) (range_with_len 0 l.place)
