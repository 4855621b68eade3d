use Rattle.std.proofs.Common.{◌≡◌, ◌++◌, take}
use Rattle.std.specs.List.{flat_map}
use Rattle.dependence.specs.Systems.{systems_of}
use Rattle.legality.specs.Dependences.{met}
use Rattle.legality.proofs.listing.list_from.Given as goal

abbrev pub invariant-loop-second : goal.invariant-loop-second
invariant-loop-second g l = l.found.items ≡ l.initial.found.items ++ met l.pred (flat_map (systems_of l.pred l.length l.first) (take l.second-index l.refs))
