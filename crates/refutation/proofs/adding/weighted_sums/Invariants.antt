use Rattle.std.proofs.Common.{◌≡◌, ◌+◌, ◌≤◌, ◌^◌, ◌++◌, unsigned_abs, length}
use Rattle.std.specs.Iterator.Adapters.{zip_first, zip_second}
use Rattle.std.specs.List.{All}
use Rattle.std.specs.Slice.Iter.{iter_rest}
use Rattle.affine.specs.Sums.{weighted}
use Rattle.refutation.proofs.adding.weighted_sums.Given as goal

abbrev pub invariant-loop-x : goal.invariant-loop-x
invariant-loop-x l = record {
  value : l.sums.items ++ weighted l.p (iter_rest (zip_first l.x-iterator)) l.q (iter_rest (zip_second l.x-iterator)) ≡ weighted l.p l.xs l.q l.ys;
  room : length l.sums.items + length (iter_rest (zip_first l.x-iterator)) ≡ length l.xs;
  size : All (λ number. unsigned_abs number ≤ 2 ^ 126) l.sums.items;
}
