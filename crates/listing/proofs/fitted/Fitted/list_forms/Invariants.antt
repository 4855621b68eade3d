use Rattle.std.proofs.Common.{◌≡◌, ◌++◌}
use Rattle.std.specs.List.{flat_map, range_with_len}
use Rattle.listing.specs.Lists.{block_forms}
use Rattle.listing.proofs.fitted.Fitted.list_forms.Given as goal

abbrev pub invariant-loop-rank : goal.invariant-loop-rank
invariant-loop-rank g l = l.lines.items ≡ l.initial.lines.items ++ flat_map (block_forms l.scalars l.self.nest.now.loops l.self.pred.now) (range_with_len 0 l.rank)
