use Rattle.std.proofs.Common.{◌^◌}
use Rattle.std.specs.List.{All}
use Rattle.fourier_motzkin.specs.RowSets.{IsWithin}
use Rattle.fourier_motzkin.specs.Elimination.{AllOver}
use Rattle.fourier_motzkin.proofs.tests.rows.Given as goal

abbrev pub invariant-loop-a : goal.invariant-loop-a
invariant-loop-a l = record {
  over : AllOver 2 l.rows.items;
  within : All (IsWithin (2 ^ 100)) l.rows.items;
}
