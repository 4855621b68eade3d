use Rattle.std.proofs.Common.{◌≡◌, ◌++◌, take}
use Rattle.legality.specs.Dependences.{met}
use Rattle.legality.proofs.listing.list_met.Given as goal

abbrev pub invariant-loop-system : goal.invariant-loop-system
invariant-loop-system g l = l.found.items ≡ l.initial.found.items ++ met l.pred (take l.system-index l.systems)
