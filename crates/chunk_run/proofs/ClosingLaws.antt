-- Closing: what follows the last instance of a chunk is the instance behind it.
use Rattle.std.proofs.Common.{◌≡◌, refl, sym, ◌∙◌, subst, ℕ, ◌<◌, inl, inr, ⊎_elim, ◌⊎◌, ℤ, pos, negsuc, ◌≤ℤ◌, unsigned_abs, FitsSigned, w64, List, [], ◌∷◌, get_or, arith, int_cmp}
use Rattle.std.specs.Cmp.Lexicographic.{slice_cmp}
use Rattle.std.proofs.lemmas.Int.{ints}
use Rattle.std.proofs.lemmas.Cmp.{lists_total, int_cmp_total}
use Rattle.nest_lang.specs.declared.tree.Loop.{Loop}
use Rattle.nest_lang.specs.declared.state.Outer.{Outer}
use Rattle.orders.specs.Orders.{Ordered}
use Rattle.plain_lemmas.specs.Lists.{Has}
use Rattle.orders.specs.Chains.{last}
use Rattle.plain_lemmas.proofs.MembershipLaws.{all-has, has-from-contains, contains-from-has}
use Rattle.orders.proofs.SortLaws.{never-itself, never-both}
use Rattle.domain.specs.declared.chunk.Chunk.{Chunk}
use Rattle.domain.specs.Tables.{Table}
use Rattle.domain.specs.Instances.{Instance, Precedes, IsOriginal, original_key}
use Rattle.domain.specs.Steps.{next}
use Rattle.domain.proofs.OriginalLaws.{successor-law}
use Rattle.follow.specs.Plans.{Item}
use Rattle.follow.proofs.TurnInstanceLaws.{planned-some}
use Rattle.follow_chunk.specs.Predicted.{scalars_at, forecast_of}
use Rattle.follow_chunk.specs.Followed.{ClosesSmall}
use Rattle.follow_chunk.specs.Tasks.{TaskState, IsTask}
use Rattle.compare.specs.ChainLaw.{behind}
use Rattle.compare.proofs.PredictedChainLaws.{planned-are-predicted, tasks-are-chunks}
use Rattle.chunk_run.specs.Parts.{ClosingFits}
use Rattle.chunk_run.proofs.CellListLaws.{in-order}

has-last : {X : Type 0} (x : X) (xs : List X) → Has (x ∷ xs) (last x xs)
has-last x [] = inl refl
has-last x (y ∷ ys) = inr (has-last y ys)

-- the last element comes after all others
last-after : {X : Type 0} (R : X → X → Type 0) (x : X) (xs : List X) (y : X) → Ordered R (x ∷ xs) → Has (x ∷ xs) y → (y ≡ last x xs) ⊎ R y (last x xs)
last-after R x [] y ord (inl e) = inl e
last-after R x [] y ord (inr h) = absurd h
last-after R x (z ∷ zs) y ord (inl e) = inr (subst (λ w. R w (last z zs)) (sym e) (all-has (R x) (z ∷ zs) (last z zs) ord.0 (has-last z zs)))
last-after R x (z ∷ zs) y ord (inr h) = last-after R z zs y ord.1 h

some-turns : (z : ℤ) → pos 1 ≤ℤ z → 0 < unsigned_abs z
some-turns (pos m) h = omega (arith, ints)
some-turns (negsuc m) h = absurd (omega (arith, ints))

module _ (D : ℕ) (job : TaskState) (words : ℕ) (task : IsTask D job (pos words)) where
  -- the last instance's successor
  last-next : (x : Instance) (xs : List Instance) → IsOriginal job.pred job.chunk (x ∷ xs) → next job.pred (last x xs) ≡ behind job.pred job.chunk
  last-next x xs original =
      let s = successor-law D job.pred task.shape job.chunk (last x xs) ((original.has (last x xs)).0 (contains-from-has (x ∷ xs) (last x xs) (has-last x xs))) in
      ⊎_elim (λ p. absurd (too-late s.after (last-after (Precedes job.pred) x xs (next job.pred (last x xs)) (in-order (Precedes job.pred) (x ∷ xs) original.ordered) (has-from-contains (x ∷ xs) (next job.pred (last x xs)) ((original.has (next job.pred (last x xs))).1 p))))) (λ e. e) s.is
    where
      too-late : Precedes job.pred (last x xs) (next job.pred (last x xs)) → (next job.pred (last x xs) ≡ last x xs) ⊎ Precedes job.pred (next job.pred (last x xs)) (last x xs) → ⊥
      too-late h (inl e) = never-itself (slice_cmp int_cmp) (lists_total int_cmp_total) (original_key job.pred) (last x xs) (subst (Precedes job.pred (last x xs)) e h)
      too-late h (inr k) = never-both (slice_cmp int_cmp) (lists_total int_cmp_total) (original_key job.pred) (last x xs) (next job.pred (last x xs)) h k

  -- a chunk has an instance
  pub not-empty : IsOriginal job.pred job.chunk [] → ⊥
  not-empty original =
      let is = tasks-are-chunks D job (pos words) task in
      let (x, xs, e) = planned-some (forecast_of job.pred) job.loops job.outer (unsigned_abs job.chunk.turns) is.keeps (some-turns job.chunk.turns is.some) in
      no x xs (sym e ∙ planned-are-predicted D job.scalars job.loops job.pred job.outer job.chunk task.shape is [] original)
    where
      no : (x : Item) (xs : List Item) → ◌≡◌ {A = List Item} (x ∷ xs) [] → ⊥
      no x xs e = cc

  pub closing-fits : (xs : List Instance) → IsOriginal job.pred job.chunk xs → ((x : Instance) → Has xs x → ClosesSmall job.pred x) → ClosingFits job.pred job.chunk
  closing-fits [] original each = absurd (not-empty original)
  closing-fits (x ∷ xs) original each = subst (λ (y : Instance). (number : ℕ) → FitsSigned w64 (get_or (scalars_at job.pred y) number (pos 0))) (last-next x xs original) (each (last x xs) (has-last x xs))
