use Rattle.std.proofs.Common.{◌≡◌, ◌++◌, map, take}
use Rattle.listing.specs.Lists.{depends_line}
use Rattle.listing.proofs.fitted.Fitted.list_dependences.Given as goal

abbrev pub invariant-loop-dependence : goal.invariant-loop-dependence
invariant-loop-dependence g l = l.lines.items ≡ l.initial.lines.items ++ map (depends_line l.self.nest.now.loops) (take l.dependence-index l.dependence-items)
