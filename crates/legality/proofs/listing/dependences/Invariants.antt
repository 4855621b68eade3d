use Rattle.std.proofs.Common.{◌≡◌, take}
use Rattle.std.specs.List.{flat_map}
use Rattle.dependence.specs.Systems.{systems_of}
use Rattle.legality.specs.Dependences.{met}
use Rattle.legality.proofs.listing.dependences.Given as goal

abbrev pub invariant-loop-first : goal.invariant-loop-first
invariant-loop-first g l = l.found.items ≡ met l.pred (flat_map (λ first. flat_map (systems_of l.pred l.length first) l.first-items) (take l.first-index l.first-items))
