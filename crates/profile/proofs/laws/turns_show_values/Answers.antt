use Rattle.profile.proofs.TripLaws.{turns-leave-i64s, turns-show-values}
use Rattle.profile.proofs.laws.turns_show_values.Goals as goal

pub returns : goal.returns
returns c = record { shown = turns-show-values; left = turns-leave-i64s }
