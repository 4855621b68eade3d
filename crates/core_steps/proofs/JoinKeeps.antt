-- A join keeps the invariant: main takes over what a worker's view has, and the seat is spent.
use Rattle.std.proofs.Common.{◌≡◌, ◌≢◌, ℕ, zero, suc, ◌<◌, true, false, true≢false, List, ◌∷◌, length, Some, None, set, inl, ⊎_elim, refl, sym, subst, arith}
use Rattle.std.proofs.lemmas.Bool.{or_cases, or_left, or_right}
use mathlib.Core.Option.{some-injective}
use mathlib.Core.Logic.{dite}
use native.Mathlib.Decide.{ℕ_discrete}
use Rattle.core_steps.specs.declared.view.View.{View}
use Rattle.core_steps.specs.Numbers.{IsSingle}
use Rattle.core_steps.specs.Plans.{writes}
use Rattle.core_steps.specs.Views.{Holds, Knows, stored_at, spent_view, joined_view}
use Rattle.core_steps.specs.States.{flag_of, claim_of, word_of}
use Rattle.core_steps.specs.Invariant.{At, IsUntouched, IsLentBy, PhaseIsSound, TilesAreSound, ValuesAreSound, Inv}
use Rattle.core_steps.proofs.NumberListLaws.{has-none, has-append, has-left, has-right, has-without, has-rest, single-without, single-append}
use Rattle.core_steps.proofs.StoreListLaws.{no-option, stored-append, unstored-append}
use Rattle.core_steps.proofs.ViewListLaws.{at-same, set-else, each-joined, somewhere-joined, one-joined}

pub join-keeps-phase : (words : List ℕ) (m : View) (ms : List View) (j : ℕ) (v : View) → PhaseIsSound words m (m ∷ ms) → At ms j v → 0 < v.number → PhaseIsSound words (joined_view m v) (joined_view m v ∷ set ms j spent_view)
join-keeps-phase words m ms j v h at out = let
    b : View = joined_view m v in let
    of = h.lent (suc j) v at out in let
    none = h.main_number in let
    taken : m.posted ≡ false → ⊥ = λ off. has-none v.number m.out (h.none_out off) of.out in
    record {
      main_number = h.main_number;
      width = h.width;
      flag = h.flag;
      claims = h.claims;
      stored = h.stored;
      none_out = λ off. absurd (taken off);
      nothing = λ off. absurd (taken off);
      separate = h.separate;
      few = h.few;
      inside = h.inside;
      numbers = λ n is_out. h.numbers n (has-rest n v.number m.out is_out).1;
      distinct = single-without v.number m.out h.distinct;
      one_view = λ n is_out. let r = has-rest n v.number m.out is_out in
          somewhere-joined (λ u. u.number ≡ n) m b spent_view v ms j at (λ e. e) (λ e. absurd (r.0 (sym e))) (h.one_view n r.1);
      only_view = λ n some_n. one-joined (λ u. u.number ≡ n) m b spent_view v ms j at (λ z. absurd (omega arith)) (λ z. inl z) (h.only_view n some_n);
      lent = each-joined (λ _ u. 0 < u.number → IsLentBy b u) m b spent_view ms j (λ z. absurd (omega arith)) (λ z. absurd (omega arith))
          (λ p u a c e some_n. let o = h.lent p u e some_n in record {
            posted = o.posted;
            epoch = o.epoch;
            base = o.base;
            plan = o.plan;
            out = has-without u.number v.number m.out (λ same. a (h.only_view v.number out p (suc j) u v e at same refl)) o.out;
          });
      spent = each-joined (λ i u. i ≢ 0 → u.number ≡ 0 → u ≡ spent_view) m b spent_view ms j (λ ne _. absurd (ne refl)) (λ _ _. refl) (λ p u _ _ e. h.spent p u e);
      failed = each-joined (λ _ u. u.failed ≡ true → flag_of words ≡ m.epoch) m b spent_view ms j
          (λ t. ⊎_elim (λ a. h.failed 0 m refl a) (λ c. h.failed (suc j) v at c) (or_cases m.failed v.failed t)) (λ t. absurd (true≢false (sym t))) (λ p u _ _ e. h.failed p u e);
      failure = λ posted is. somewhere-joined (λ u. u.failed ≡ true) m b spent_view v ms j at (λ t. or_left m.failed v.failed t) (λ t. or_right m.failed v.failed t) (h.failure posted is);
      seen = each-joined (λ _ u. u.seen ≡ true → flag_of words ≡ m.epoch) m b spent_view ms j
          (λ t. ⊎_elim (λ a. h.seen 0 m refl a) (λ c. h.seen (suc j) v at c) (or_cases m.seen v.seen t)) (λ t. absurd (true≢false (sym t))) (λ p u _ _ e. h.seen p u e);
    }

pub join-keeps-tiles : (words : List ℕ) (m : View) (ms : List View) (j : ℕ) (v : View) → TilesAreSound words m (m ∷ ms) → At ms j v → TilesAreSound words (joined_view m v) (joined_view m v ∷ set ms j spent_view)
join-keeps-tiles words m ms j v h at = let
    b : View = joined_view m v in
    record {
      one_holder = λ k. one-joined (λ u. Holds u k) m b spent_view v ms j at (λ t. true≢false (sym t)) (λ t. has-append k m.held v.held t) (h.one_holder k);
      once = each-joined (λ _ u. IsSingle u.held) m b spent_view ms j
          (single-append m.held v.held (h.once 0 m refl) (h.once (suc j) v at) (λ k a c. let z : 0 ≡ suc j = h.one_holder k 0 (suc j) m v refl at a c in absurd (omega (arith, z)))) tt (λ p u _ _ e. h.once p u e);
      claimed = λ k. each-joined (λ _ u. Holds u k → (k < length m.plan.tiles) × (claim_of words k ≡ m.epoch)) m b spent_view ms j
          (λ t. ⊎_elim (λ a. h.claimed k 0 m refl a) (λ c. h.claimed k (suc j) v at c) (has-append k m.held v.held t)) (λ t. absurd (true≢false (sym t))) (λ p u _ _ e. h.claimed k p u e);
      held = λ posted k lt is. somewhere-joined (λ u. Holds u k) m b spent_view v ms j at (λ t. has-left k m.held v.held t) (λ t. has-right k m.held v.held t) (h.held posted k lt is);
      known = λ k. each-joined (λ _ u. Knows u k → (k < length m.plan.tiles) × (claim_of words k ≡ m.epoch)) m b spent_view ms j
          (λ t. ⊎_elim (λ a. h.known k 0 m refl a) (λ c. h.known k (suc j) v at c) (has-append k m.known v.known t)) (λ t. absurd (true≢false (sym t))) (λ p u _ _ e. h.known k p u e);
    }

pub join-keeps-values : (words : List ℕ) (m : View) (ms : List View) (j : ℕ) (v : View) → ValuesAreSound words m (m ∷ ms) → At ms j v → ValuesAreSound words (joined_view m v) (joined_view m v ∷ set ms j spent_view)
join-keeps-values words m ms j v h at = let
    b : View = joined_view m v in
    record {
      owned = λ a x. each-joined (λ _ u. stored_at a u.own ≡ Some x → (k : ℕ) × Holds u k × (writes m.plan k a ≡ true)) m b spent_view ms j
          (λ is. ⊎_elim (λ c. let o = h.owned a x 0 m refl c in (o.0, has-left o.0 m.held v.held o.1, o.2)) (λ c. let o = h.owned a x (suc j) v at c in (o.0, has-right o.0 m.held v.held o.1, o.2)) (stored-append a m.own v.own x is))
          (λ is. absurd (no-option x None refl is)) (λ p u _ _ e. h.owned a x p u e);
      own = λ a x. each-joined (λ _ u. stored_at a u.own ≡ Some x → word_of words a ≡ x) m b spent_view ms j
          (λ is. ⊎_elim (λ c. h.own a x 0 m refl c) (λ c. h.own a x (suc j) v at c) (stored-append a m.own v.own x is))
          (λ is. absurd (no-option x None refl is)) (λ p u _ _ e. h.own a x p u e);
      base = λ a lt none. h.base a lt (before a none);
    } where
      before : (a : ℕ) → IsUntouched (joined_view m v ∷ set ms j spent_view) a → IsUntouched (m ∷ ms) a
      before a none zero u e = subst (λ (z : View). stored_at a z.own ≡ None) (some-injective m u e) (unstored-append a m.own v.own (none 0 (joined_view m v) refl)).0
      before a none (suc i) u e = dite (ℕ_discrete i j)
          (λ same. subst (λ (z : View). stored_at a z.own ≡ None) (at-same ms j v u at (subst (λ (y : ℕ). At ms y u) same e)) (unstored-append a m.own v.own (none 0 (joined_view m v) refl)).1)
          (λ ne. none (suc i) u (set-else ms j i spent_view u ne e))

pub join-keeps : (words : List ℕ) (m : View) (ms : List View) (j : ℕ) (v : View) → Inv words m (m ∷ ms) → At ms j v → 0 < v.number → Inv words (joined_view m v) (joined_view m v ∷ set ms j spent_view)
join-keeps words m ms j v h at out = record {
  phase = join-keeps-phase words m ms j v h.phase at out;
  tiles = join-keeps-tiles words m ms j v h.tiles at;
  values = join-keeps-values words m ms j v h.values at;
}
