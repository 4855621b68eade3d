use Rattle.journeys.proofs.OneChunk.{launch-has-one-set}
use Rattle.journeys.proofs.OneLaunch.{launch-has-one-end}
use Rattle.journeys.proofs.SomeLaunch.{launch-has-end, launch-has-numbers}
use Rattle.journeys.proofs.laws.launches_end.Goals as goal

pub returns : goal.returns
returns c = record { ends = launch-has-end; one = launch-has-one-end; numbers = launch-has-numbers; set = launch-has-one-set }
