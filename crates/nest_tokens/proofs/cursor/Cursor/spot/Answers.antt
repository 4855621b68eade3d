use Rattle.std.proofs.Common.{sym}
use Rattle.nest_tokens.specs.Ahead.{here}
use Rattle.nest_tokens.proofs.PlaceLaws.{here-at}
use Rattle.nest_tokens.proofs.FitLaws.{placed-fits}
use Rattle.nest_tokens.proofs.cursor.Cursor.spot.Goals as goal

pub returns-clause-value : goal.returns-clause-value
unfolding here
returns-clause-value c = rw (← c.self.view_is) (sym (here-at _ _ _ _ c.self.invariant))

pub returns-clause-fits : goal.returns-clause-fits
returns-clause-fits c = placed-fits c.self.invariant
