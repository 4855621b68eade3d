use Rattle.std.proofs.Common.{◌+◌, ◌*◌}
use Rattle.domain.proofs.prediction.Prediction.+turn.Given as goal

abbrev pub decreases-after_loop : goal.decreases-after_loop
decreases-after_loop g l = 2 * l.around

abbrev pub decreases-next_turn : goal.decreases-next_turn
decreases-next_turn g l = 2 * l.around + 1
