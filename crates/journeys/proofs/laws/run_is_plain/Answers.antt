use Rattle.journeys.proofs.PlainRunLaws.{moments-are-plain, nest_run-is-plain, run-is-plain}
use Rattle.journeys.proofs.laws.run_is_plain.Goals as goal

pub returns : goal.returns
returns c = record { moments = moments-are-plain; nest = nest_run-is-plain; file = run-is-plain }
