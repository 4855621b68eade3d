-- Restoring: what was changed of a chunk's words is what was kept.
use Rattle.std.proofs.Common.{◌≡◌, refl, sym, ap, ◌∙◌, subst, ℕ, ℤ, true, true≢false, ◌==◌, List, eq-eqb}
use Rattle.std.specs.List.{Contains}
use Rattle.std.proofs.lemmas.List.Folds.{list_any_at}
use Rattle.core_steps.specs.Numbers.{has}
use Rattle.chunk_run.specs.declared.keep.Kept.{Kept}
use Rattle.chunk_run.specs.Backups.{addresses_kept, DiffersOnlyAt}
use Rattle.tiles.specs.Stripes.{addresses_of_all}
use Rattle.skeletons.specs.Cells.{Extent}
use Rattle.tiles.specs.Plans.{ChunkPlan, IsPlanOf}
use Rattle.chunk_run.specs.Parts.{ChangesChunk}

pub has-contained : (xs : List ℕ) (a : ℕ) → Contains xs a → has a xs ≡ true
has-contained xs a c = list_any_at (λ y. y == a) xs c.0 a c.1 (subst (λ (b : ℕ). (b == a) ≡ true) (sym c.2) (eq-eqb a a refl))

-- words that a chunk changed are at the addresses that were kept
pub differs-at-kept : (e : Extent) (words : ℕ) (plan : ChunkPlan) (backup : List Kept) (m w : List ℤ) → IsPlanOf e words plan → addresses_kept backup ≡ addresses_of_all plan.stripes
    → ChangesChunk e.table e.chunk m w → DiffersOnlyAt (addresses_kept backup) m w
differs-at-kept e words plan backup m w is kept changes = record {
  length = sym changes.long;
  others = λ a away. sym (changes.others a (λ x p writes.
      true≢false (sym (has-contained (addresses_of_all plan.stripes) a ((is.stores a).1 (record { at = x; predicted = p; writes = writes }))) ∙ ap (has a) (sym kept) ∙ away)));
}
