use Rattle.legality.proofs.ChoiceLaws.{AreRefused}
use Rattle.seek.specs.ScheduleLists.{schedules}
use Rattle.seek.proofs.searching.seek.Given as goal

abbrev pub invariant-loop-place : goal.invariant-loop-place
invariant-loop-place g l = AreRefused l.pred l.length (schedules g.row.D) l.place l.refusals.items
