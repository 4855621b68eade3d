use Rattle.line_fit.proofs.FitLaws.{tube-of-met}
use Rattle.line_fit.proofs.fit.fit_datum.Goals as goal

pub unreachable-requires : goal.unreachable-requires
unreachable-requires g c = tube-of-met c.args.samples.now c.in_ok-line.line _ _ c.args.widest c.tube_of.ensures.tube c.in-None.ensures c.in_default.ensures
