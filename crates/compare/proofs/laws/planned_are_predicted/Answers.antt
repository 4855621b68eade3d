use Rattle.compare.proofs.PredictedChainLaws.{planned-are-original, planned-are-predicted, predicted-occur, successors-are-planned, next_turn-opens}
use Rattle.compare.proofs.laws.planned_are_predicted.Goals as goal

pub returns : goal.returns
returns c = record { original = planned-are-original; items = planned-are-predicted; occur = predicted-occur; successors = successors-are-planned; opens = next_turn-opens }
