use Rattle.std.proofs.Common.{◌≤◌, ◌^◌, length, unsigned_abs}
use Rattle.std.specs.List.{All}
use Rattle.fourier_motzkin.specs.RowSets.{IsWithin}
use Rattle.fourier_motzkin.specs.Elimination.{AllOver}
use Rattle.row_verdicts.proofs.system.rows.Given as goal

abbrev pub invariant-loop-rest : goal.invariant-loop-rest
invariant-loop-rest l = record {
  small : All (λ number. unsigned_abs number ≤ 2 ^ 100) l.rest;
  within : All (IsWithin (2 ^ 100)) l.rows.items;
  over : AllOver l.variables l.rows.items;
}

abbrev pub decreases-loop-rest : goal.decreases-loop-rest
decreases-loop-rest l = length l.rest
