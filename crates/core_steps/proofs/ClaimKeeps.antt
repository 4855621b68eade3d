-- A claim keeps the invariant: where the old claim was of an earlier epoch nobody held the tile, and now the seat
-- does; where it was of this epoch nothing but what the seat knows changes.
use Rattle.std.proofs.Common.{◌≡◌, ◌≢◌, ℕ, ◌<◌, ◌≤◌, Bool, cond, List, [], ◌∷◌, length, set, ⊎_elim, refl, sym, ◌∙◌, subst, arith, eq-eqb, ne_eqb, length-set, get_or-set_same}
use mathlib.Core.Logic.{dite}
use native.Mathlib.Decide.{ℕ_discrete}
use Rattle.core_steps.specs.declared.view.View.{View}
use Rattle.core_steps.specs.Numbers.{IsSingle}
use Rattle.core_steps.specs.Views.{Holds, Knows, holding_view, knowing_view, claiming_view}
use Rattle.core_steps.specs.States.{claim_word, claim_of}
use Rattle.core_steps.specs.Invariant.{At, AtMostOne, PhaseIsSound, Inv}
use Rattle.core_steps.proofs.NumberListLaws.{has-snoc, has-last, has-left, single-snoc}
use Rattle.core_steps.proofs.ViewListLaws.{each-set, each-kept, somewhere-set, one-set, one-new, set-here}
use Rattle.core_steps.proofs.WordListLaws.{flag-set-claim, claim-set-other, word-set-claim}
use Rattle.core_steps.proofs.MoveLaws.{IsSameSeat, phase-stays, values-stay}

-- the claim is at the epoch then, and the others are as before
claims-after : (words : List ℕ) (m : View) (views : List View) (i k : ℕ) (v : View) → PhaseIsSound words m views → At views i v → 0 < v.number → k < length m.plan.tiles
    → (claim_of (set words (claim_word k) v.epoch) k ≡ m.epoch) × ((n : ℕ) → claim_of words n ≡ m.epoch → claim_of (set words (claim_word k) v.epoch) n ≡ m.epoch)
claims-after words m views i k v h at out planned = let
    wide = h.width in let
    few = h.few in let
    of = h.lent i v at out in let
    here : claim_of (set words (claim_word k) v.epoch) k ≡ m.epoch = get_or-set_same words (claim_word k) v.epoch 0 (omega arith) ∙ of.epoch in
    (here, λ n is. dite (ℕ_discrete n k) (λ e. subst (λ (y : ℕ). claim_of (set words (claim_word k) v.epoch) y ≡ m.epoch) (sym e) here) (λ ne. claim-set-other words k n v.epoch ne ∙ is))

pub claim-keeps-phase : (words : List ℕ) (m : View) (views : List View) (i k : ℕ) (v w : View) → PhaseIsSound words m views → At views i v → 0 < v.number → k < length m.plan.tiles → IsSameSeat v w → w.failed ≡ v.failed → w.seen ≡ v.seen
    → PhaseIsSound (set words (claim_word k) v.epoch) m (set views i w)
claim-keeps-phase words m views i k v w h at out planned same failed seen = let
    after = claims-after words m views i k v h at out planned in
    phase-stays words (set words (claim_word k) v.epoch) m views i v w h at out same (length-set words (claim_word k) v.epoch) (flag-set-claim words k v.epoch)
    (λ n lt. dite (ℕ_discrete n k) (λ e. subst (λ (y : ℕ). claim_of (set words (claim_word k) v.epoch) y ≤ m.epoch) (sym e) (omega (arith, after.0)))
    (λ ne. subst (λ (y : ℕ). y ≤ m.epoch) (sym (claim-set-other words k n v.epoch ne)) (h.claims n lt))) failed seen

-- the tile was free
pub hold-keeps : (words : List ℕ) (m : View) (views : List View) (i k : ℕ) (v : View) → Inv words m views → At views i v → 0 < v.number → k < length m.plan.tiles → claim_of words k ≢ v.epoch
    → Inv (set words (claim_word k) v.epoch) m (set views i (holding_view v k))
hold-keeps words m views i k v h at out planned fresh = let
    of = h.phase.lent i v at out in let
    w : View = holding_view v k in let
    ws : List ℕ = set words (claim_word k) v.epoch in let
    few = h.phase.few in let
    after = claims-after words m views i k v h.phase at out planned in let
    nobody : (j : ℕ) (u : View) → At views j u → ¬ Holds u k = λ j u e t. fresh ((h.tiles.claimed k j u e t).1 ∙ sym of.epoch) in let
    less : (n : ℕ) → n ≢ k → Holds w n → Holds v n = λ n ne t. ⊎_elim (λ e. absurd (ne e)) (λ r. r) (has-snoc n k v.held t) in
    record {
      phase = claim-keeps-phase words m views i k v w h.phase at out planned (record { number = refl; posted = refl; epoch = refl; base = refl; plan = refl }) refl refl;
      tiles = record {
        one_holder = λ n. dite (ℕ_discrete n k)
            (λ e. subst (λ (y : ℕ). AtMostOne (λ u. Holds u y) (set views i w)) (sym e) (one-new (λ u. Holds u k) views i w (λ j u _ e'. nobody j u e')))
            (λ ne. one-set (λ u. Holds u n) views i v w at (less n ne) (h.tiles.one_holder n));
        once = each-set (λ _ u. IsSingle u.held) views i w (single-snoc k v.held (h.tiles.once i v at) (nobody i v at)) (λ j u _ e. h.tiles.once j u e);
        claimed = λ n. each-set (λ _ u. Holds u n → (n < length m.plan.tiles) × (claim_of ws n ≡ m.epoch)) views i w
            (λ t. ⊎_elim (λ e. subst (λ (y : ℕ). (y < length m.plan.tiles) × (claim_of ws y ≡ m.epoch)) (sym e) (planned, after.0))
            (λ r. let c = h.tiles.claimed n i v at r in (c.0, after.1 n c.1)) (has-snoc n k v.held t))
            (λ j u _ e t. let c = h.tiles.claimed n j u e t in (c.0, after.1 n c.1));
        held = λ posted n lt is. dite (ℕ_discrete n k)
            (λ e. (i, w, set-here views i v w at, subst (λ (y : ℕ). Holds w y) (sym e) (has-last k v.held)))
            (λ ne. somewhere-set (λ u. Holds u n) views i v w at (λ t. has-left n v.held (k ∷ []) t) (h.tiles.held posted n lt (sym (claim-set-other words k n v.epoch ne) ∙ is)));
        known = λ n. each-set (λ _ u. Knows u n → (n < length m.plan.tiles) × (claim_of ws n ≡ m.epoch)) views i w
            (λ t. ⊎_elim (λ e. subst (λ (y : ℕ). (y < length m.plan.tiles) × (claim_of ws y ≡ m.epoch)) (sym e) (planned, after.0))
            (λ r. let c = h.tiles.known n i v at r in (c.0, after.1 n c.1)) (has-snoc n k v.known t))
            (λ j u _ e t. let c = h.tiles.known n j u e t in (c.0, after.1 n c.1));
      };
      values = values-stay words ws m views i v w h.values at (λ a. word-set-claim words k a v.epoch (omega arith)) refl (λ n t. has-left n v.held (k ∷ []) t);
    }

-- the tile was taken
pub know-keeps : (words : List ℕ) (m : View) (views : List View) (i k : ℕ) (v : View) → Inv words m views → At views i v → 0 < v.number → k < length m.plan.tiles → claim_of words k ≡ v.epoch
    → Inv (set words (claim_word k) v.epoch) m (set views i (knowing_view v k))
know-keeps words m views i k v h at out planned taken = let
    of = h.phase.lent i v at out in let
    w : View = knowing_view v k in let
    ws : List ℕ = set words (claim_word k) v.epoch in let
    few = h.phase.few in let
    after = claims-after words m views i k v h.phase at out planned in let
    before : (n : ℕ) → claim_of ws n ≡ m.epoch → claim_of words n ≡ m.epoch = λ n is. dite (ℕ_discrete n k)
    (λ e. subst (λ (y : ℕ). claim_of words y ≡ m.epoch) (sym e) (taken ∙ of.epoch)) (λ ne. sym (claim-set-other words k n v.epoch ne) ∙ is) in
    record {
      phase = claim-keeps-phase words m views i k v w h.phase at out planned (record { number = refl; posted = refl; epoch = refl; base = refl; plan = refl }) refl refl;
      tiles = record {
        one_holder = λ n. one-set (λ u. Holds u n) views i v w at (λ t. t) (h.tiles.one_holder n);
        once = each-kept (λ _ u. IsSingle u.held) views i v w at (λ t. t) h.tiles.once;
        claimed = λ n. each-set (λ _ u. Holds u n → (n < length m.plan.tiles) × (claim_of ws n ≡ m.epoch)) views i w
            (λ t. let c = h.tiles.claimed n i v at t in (c.0, after.1 n c.1)) (λ j u _ e t. let c = h.tiles.claimed n j u e t in (c.0, after.1 n c.1));
        held = λ posted n lt is. somewhere-set (λ u. Holds u n) views i v w at (λ t. t) (h.tiles.held posted n lt (before n is));
        known = λ n. each-set (λ _ u. Knows u n → (n < length m.plan.tiles) × (claim_of ws n ≡ m.epoch)) views i w
            (λ t. ⊎_elim (λ e. subst (λ (y : ℕ). (y < length m.plan.tiles) × (claim_of ws y ≡ m.epoch)) (sym e) (planned, after.0))
            (λ r. let c = h.tiles.known n i v at r in (c.0, after.1 n c.1)) (has-snoc n k v.known t))
            (λ j u _ e t. let c = h.tiles.known n j u e t in (c.0, after.1 n c.1));
      };
      values = values-stay words ws m views i v w h.values at (λ a. word-set-claim words k a v.epoch (omega arith)) refl (λ n t. t);
    }

pub claim-keeps : (words : List ℕ) (m : View) (views : List View) (i k : ℕ) (v : View) → Inv words m views → At views i v → 0 < v.number → k < length m.plan.tiles
    → Inv (set words (claim_word k) v.epoch) m (set views i (claiming_view v k (claim_of words k)))
claim-keeps words m views i k v h at out planned = let Kept : Bool → Type 0 = λ b. Inv (set words (claim_word k) v.epoch) m (set views i (cond b (knowing_view v k) (holding_view v k))) in dite (ℕ_discrete (claim_of words k) v.epoch)
    (λ e. subst Kept (sym (eq-eqb (claim_of words k) v.epoch e)) (know-keeps words m views i k v h at out planned e))
    (λ ne. subst Kept (sym (ne_eqb (claim_of words k) v.epoch ne)) (hold-keeps words m views i k v h at out planned ne))
