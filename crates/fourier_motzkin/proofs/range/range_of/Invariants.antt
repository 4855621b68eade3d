use Rattle.std.proofs.Common.{◌≡◌, ℤ, take}
use Rattle.std.specs.Prelude.{◌↔◌, is_some}
use Rattle.std.specs.List.{list_any}
use Rattle.fourier_motzkin.specs.Elimination.{bounds_above, bounds_below}
use Rattle.fourier_motzkin.specs.Ranges.{Allowed, Lies}
use Rattle.fourier_motzkin.proofs.range.range_of.Given as goal

abbrev pub invariant-loop-row : goal.invariant-loop-row
invariant-loop-row l = record {
  lies : (value : ℤ) → Lies l.ends.least l.ends.greatest value ↔ Allowed (take l.row-index l.rows) l.outer value;
  below : is_some l.ends.least ≡ list_any (bounds_below l.variable) (take l.row-index l.rows);
  above : is_some l.ends.greatest ≡ list_any (bounds_above l.variable) (take l.row-index l.rows);
}
