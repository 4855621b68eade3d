use Rattle.orders.proofs.ShareLaws.{named-lawful}
use Rattle.follow.specs.Footprints.{follow_machine}
use Rattle.follow.proofs.LawfulLaws.{follow-is-lawful}
use Rattle.follow_chunk.specs.Predicted.{forecast_of}
use Rattle.follow_chunk.specs.Items.{item_at, scalars_after}
use Rattle.follow_chunk.specs.Followed.{ClosesSmall}
use Rattle.verified_turns.proofs.GatheringLaws.{phase_law}
use Rattle.verified_turns.specs.Machines.{instances}
use Rattle.verified_turns.proofs.laws.instances_keep_phases.Goals as goal

pub returns : goal.returns
returns c = λ t loops o words. phase_law (instances t loops o words) (ClosesSmall t) (named-lawful (item_at t loops o) (follow_machine (forecast_of t) (scalars_after t) words) (follow-is-lawful (forecast_of t) (scalars_after t) words))
