use Rattle.legality.proofs.ChoiceLaws.{AreRefused}
use Rattle.legality.proofs.choices.choose.Given as goal

abbrev pub invariant-loop-place : goal.invariant-loop-place
invariant-loop-place g l = AreRefused l.pred l.turns l.schedules l.place l.refusals.items
