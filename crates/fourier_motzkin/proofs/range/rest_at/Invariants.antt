use Rattle.std.proofs.Common.{◌≡◌, ◌+◌, ◌*◌, ◌≤◌, ◌^◌, ◌+ℤ◌, unsigned_abs, length}
use Rattle.std.specs.Iterator.Adapters.{zip_first, zip_second}
use Rattle.std.specs.List.{All}
use Rattle.std.specs.Slice.Iter.{iter_rest}
use Rattle.affine.specs.Sums.{dot}
use Rattle.affine.specs.Rows.{sum_at}
use Rattle.fourier_motzkin.proofs.range.rest_at.Given as goal

abbrev pub invariant-loop-number : goal.invariant-loop-number
invariant-loop-number l = record {
  value : l.sum +ℤ dot (iter_rest (zip_first l.number-iterator)) (iter_rest (zip_second l.number-iterator)) ≡ sum_at l.row l.outer;
  long : length l.yielded + length (iter_rest (zip_second l.number-iterator)) ≡ length l.outer;
  numbers : All (λ number. unsigned_abs number ≤ 2 ^ 62) (iter_rest (zip_first l.number-iterator));
  values : All (λ value. unsigned_abs value ≤ 2 ^ 60) (iter_rest (zip_second l.number-iterator));
  size : unsigned_abs l.sum ≤ 2 ^ 62 + length l.yielded * (2 ^ 62 * 2 ^ 60);
}
