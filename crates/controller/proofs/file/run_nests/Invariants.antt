use Rattle.controller.proofs.NestLaws.{Nested}
use Rattle.controller.proofs.file.run_nests.Given as goal

abbrev pub invariant-nests : goal.invariant-nests
invariant-nests g l = Nested l.options l.file l.fn.machine l.fn.lines.items (g.C.Crew.handed l.fn.crew) l.number l.machine l.lines.items (g.C.Crew.handed l.crew)
