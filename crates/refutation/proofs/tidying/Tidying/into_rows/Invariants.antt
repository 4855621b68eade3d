use Rattle.std.proofs.Common.{◌≡◌, ◌++◌, map}
use Rattle.fourier_motzkin.proofs.EntryLaws.{row_at}
use Rattle.refutation.proofs.tidying.Tidying.into_rows.Given as goal

abbrev pub invariant-loop-coef : goal.invariant-loop-coef
invariant-loop-coef l = l.rows.items ++ map row_at l.coef-iterator ≡ l.fn.self
