use Rattle.std.proofs.Common.{◌≡◌, None, take}
use Rattle.std.specs.List.{flat_map}
use Rattle.dependence.specs.Systems.{systems_of}
use Rattle.dependence.specs.Legality.{trials_of}
use Rattle.legality.specs.Judgements.{first_refusal}
use Rattle.legality.proofs.judging.refused_from.Given as goal

abbrev pub invariant-loop-second : goal.invariant-loop-second
invariant-loop-second g l = first_refusal l.pred l.schedule (flat_map (λ second. flat_map (trials_of l.pred l.schedule) (systems_of l.pred l.length l.first second)) (take l.second-index l.refs)) ≡ None
