use Rattle.std.proofs.Common.{◌≡◌}
use Rattle.controller.proofs.CandidateLaws.{standards_to}
use Rattle.controller.proofs.course.standards.Given as goal

abbrev pub invariant-loop-place : goal.invariant-loop-place
invariant-loop-place g l = l.schedules.items ≡ standards_to g.row.D l.place
