use Rattle.std.proofs.Common.{◌≡◌, ◌++◌, reverse}
use Rattle.fourier_motzkin.specs.RowSets.{tidied}
use Rattle.fourier_motzkin.specs.Elimination.{IsSound, judged}
use Rattle.fourier_motzkin.specs.Verdicts.{levels, ruling}
use Rattle.fourier_motzkin.proofs.verdicts.bounds.Given as goal

abbrev pub invariant-loop-variable : goal.invariant-loop-variable
invariant-loop-variable l = record {
  levels : levels l.variable l.said ++ reverse l.levels.items ≡ levels l.variables (judged (tidied l.rows));
  ruling : ruling l.variable l.said ≡ ruling l.variables (judged (tidied l.rows));
  sound : IsSound l.variables l.said;
}
