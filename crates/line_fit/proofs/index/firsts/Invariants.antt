use Rattle.line_fit.specs.Firsts.{IsIndex}
use Rattle.line_fit.proofs.index.firsts.Given as goal

abbrev pub invariant-loop-place : goal.invariant-loop-place
invariant-loop-place g l = IsIndex l.samples l.place l.index
