use Rattle.std.proofs.Common.{ℕ, ◌<◌, ◌≤◌, lit≤, lit<, arith}
use Rattle.std.proofs.lemmas.List.Elements.{All-replicate}
use Rattle.std.proofs.lemmas.List.FromFn.{length-map-range_with_len}
use Rattle.affine.specs.Matrices.{unit_row}
use Rattle.transform.proofs.EntryLaws.{EntriesWithin-identity}
use Rattle.transform.proofs.draft.Draft.new.Goals as goal

pub invariant_of-result : goal.invariant_of-result
invariant_of-result g c = rw c.identity.ensures (record {
  many = length-map-range_with_len (unit_row g.row.D) 0 g.row.D;
  many_columns = length-map-range_with_len (unit_row g.row.D) 0 g.row.D;
  small = EntriesWithin-identity g.row.D;
  small_columns = EntriesWithin-identity g.row.D;
  few = lit≤ tt;
  leads = omega arith;
  some = All-replicate (λ (size : ℕ). 0 < size) g.row.D 1 (lit< tt);
  limit = All-replicate (λ (size : ℕ). size ≤ 65536) g.row.D 1 (lit≤ tt);
})
