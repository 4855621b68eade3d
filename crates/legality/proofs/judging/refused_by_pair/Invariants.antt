use Rattle.std.proofs.Common.{◌≡◌, None, take}
use Rattle.std.specs.List.{flat_map}
use Rattle.dependence.specs.Legality.{trials_of}
use Rattle.legality.specs.Judgements.{first_refusal}
use Rattle.legality.proofs.judging.refused_by_pair.Given as goal

abbrev pub invariant-loop-system : goal.invariant-loop-system
invariant-loop-system g l = first_refusal l.pred l.schedule (flat_map (trials_of l.pred l.schedule) (take l.system-index l.system-items)) ≡ None
