use Rattle.std.proofs.Common.{◌≡◌, None, take}
use Rattle.std.specs.List.{flat_map}
use Rattle.dependence.specs.Systems.{systems_of}
use Rattle.dependence.specs.Legality.{trials_of}
use Rattle.legality.specs.Judgements.{first_refusal}
use Rattle.legality.proofs.judging.refused.Given as goal

abbrev pub invariant-loop-first : goal.invariant-loop-first
invariant-loop-first g l =
    first_refusal l.pred l.schedule (flat_map (λ first. flat_map (trials_of l.pred l.schedule) (flat_map (systems_of l.pred l.length first) l.first-items)) (take l.first-index l.first-items)) ≡ None
