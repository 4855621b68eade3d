use Rattle.std.proofs.Common.{◌≡◌, ◌++◌}
use Rattle.std.specs.List.{flat_map, range_with_len}
use Rattle.listing.specs.Lists.{judgement_at}
use Rattle.listing.proofs.fitted.Fitted.list_own.Given as goal

abbrev pub invariant-loop-place : goal.invariant-loop-place
invariant-loop-place g l = l.lines.items ≡ l.initial.lines.items ++ flat_map (judgement_at l.self.nest.now.loops l.self.pred.now l.self.length l.scripts) (range_with_len 0 l.place)
