use Rattle.controller.specs.Courses.{rest_of}
use Rattle.controller.proofs.StageLaws.{Along}
use Rattle.controller.proofs.nest.run_stages.Given as goal

abbrev pub invariant-stages : goal.invariant-stages
invariant-stages g l = Along l.course l.fn.machine l.fn.lines.items (g.C.Crew.handed l.fn.crew) l.stage l.machine l.lines.items (g.C.Crew.handed l.crew)

abbrev pub decreases-stages : goal.decreases-stages
decreases-stages g l = rest_of l.stage l.machine.moment
