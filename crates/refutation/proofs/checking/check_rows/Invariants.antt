use Rattle.fourier_motzkin.specs.RowSets.{tidied}
use Rattle.refutation.proofs.CheckLaws.{AreChecked}
use Rattle.refutation.proofs.checking.check_rows.Given as goal

abbrev pub invariant-loop-number : goal.invariant-loop-number
invariant-loop-number l = AreChecked (tidied l.rows) l.proof.adds l.number l.all.items
