use Rattle.std.proofs.Common.{ℕ, ◌<◌}
use Rattle.line_fit.specs.Lines.{Meets}
use Rattle.line_fit.proofs.tube.first_miss.Given as goal

abbrev pub invariant-loop-place : goal.invariant-loop-place
invariant-loop-place g l = (earlier : ℕ) → earlier < l.place → Meets l.line l.samples earlier
