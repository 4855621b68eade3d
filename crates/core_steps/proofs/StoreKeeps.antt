-- A store keeps the invariant: a worker's, to a write of a tile that it holds, and main's between phases.
use Rattle.std.proofs.Common.{◌≡◌, ◌≢◌, ℕ, ◌<◌, ◌≤◌, true, false, true≢false, List, ◌∷◌, length, Some, set, refl, sym, ap, ◌∙◌, subst, arith, length-set}
use Rattle.std.proofs.lemmas.Bool.{or_right}
use mathlib.Core.Logic.{dite}
use native.Mathlib.Decide.{ℕ_discrete}
use Rattle.core_steps.specs.declared.plan.Plan.{Plan}
use Rattle.core_steps.specs.declared.view.View.{View}
use Rattle.core_steps.specs.Plans.{writes, touches, IsInside, tile_of}
use Rattle.core_steps.specs.Numbers.{has}
use Rattle.core_steps.specs.Views.{Holds, stored_at, storing_view, based_view}
use Rattle.core_steps.specs.States.{memory_word, word_of}
use Rattle.core_steps.specs.Invariant.{At, IsEmptyHanded, PhaseIsSound, TilesAreSound, ValuesAreSound, Inv}
use Rattle.core_steps.proofs.NumberListLaws.{not_both}
use Rattle.core_steps.proofs.StoreListLaws.{no-option, stored-same, stored-other}
use Rattle.core_steps.proofs.ViewListLaws.{each-set, set-here}
use Rattle.core_steps.proofs.WordListLaws.{flag-set-memory, claim-set-memory, word-set-other, word-set-same, shows-store}
use Rattle.core_steps.proofs.MoveLaws.{phase-stays, tiles-stay, untouched-before}
use Rattle.core_steps.proofs.QuietViewLaws.{all-spent, quiet-phase, quiet-tiles, quiet-values, shows-base}

-- a write is touched
pub write-touches : (plan : Plan) (k a : ℕ) → writes plan k a ≡ true → touches plan k a ≡ true
write-touches plan k a t = or_right (has a (tile_of plan k).reads) (has a (tile_of plan k).writes) t

pub store-keeps-phase : (words : List ℕ) (m : View) (views : List View) (i a x : ℕ) (v : View) → PhaseIsSound words m views → At views i v → 0 < v.number
    → PhaseIsSound (set words (memory_word a) x) m (set views i (storing_view v a x))
store-keeps-phase words m views i a x v h at out =
    phase-stays words (set words (memory_word a) x) m views i v (storing_view v a x) h at out (record { number = refl; posted = refl; epoch = refl; base = refl; plan = refl })
    (length-set words (memory_word a) x) (flag-set-memory words a x) (λ k lt. subst (λ (n : ℕ). n ≤ m.epoch) (sym (claim-set-memory words k a x lt)) (h.claims k lt)) refl refl

pub store-keeps-tiles : (words : List ℕ) (m : View) (views : List View) (i a x : ℕ) (v : View) → TilesAreSound words m views → length m.plan.tiles ≤ 65536 → At views i v
    → TilesAreSound (set words (memory_word a) x) m (set views i (storing_view v a x))
store-keeps-tiles words m views i a x v h few at = tiles-stay words (set words (memory_word a) x) m views i v (storing_view v a x) h few at (λ k lt. claim-set-memory words k a x lt) refl refl

pub store-keeps-values : (words : List ℕ) (m : View) (views : List View) (i k a x : ℕ) (v : View) → Inv words m views → At views i v → 0 < v.number → Holds v k → writes v.plan k a ≡ true
    → ValuesAreSound (set words (memory_word a) x) m (set views i (storing_view v a x))
store-keeps-values words m views i k a x v h at out holds may = let
    of = h.phase.lent i v at out in let
    w : View = storing_view v a x in let
    ws : List ℕ = set words (memory_word a) x in let
    mine : writes m.plan k a ≡ true = ap (λ (p : Plan). writes p k a) (sym of.plan) ∙ may in let
    inside : a < length m.base = h.phase.inside k a (write-touches m.plan k a mine) in let
    wide = h.phase.width in let
    here : word_of ws a ≡ x = word-set-same words a x (omega arith) in
    record {
      owned = λ b y. each-set (λ _ u. stored_at b u.own ≡ Some y → (n : ℕ) × Holds u n × (writes m.plan n b ≡ true)) views i w
          (λ is. dite (ℕ_discrete a b)
          (λ e. (k, holds, subst (λ (c : ℕ). writes m.plan k c ≡ true) e mine))
          (λ ne. h.values.owned b y i v at (sym (stored-other b (a, x) v.own ne) ∙ is)))
          (λ j u _ e. h.values.owned b y j u e);
      own = λ b y. each-set (λ _ u. stored_at b u.own ≡ Some y → word_of ws b ≡ y) views i w
          (λ is. dite (ℕ_discrete a b)
          (λ e. let same : x ≡ y = (let p = stored-same b (a, x) v.own e in cc (p, is)) in subst (λ (c : ℕ). word_of ws c ≡ y) e (here ∙ same))
          (λ ne. word-set-other words a b x (λ e. ne (sym e)) ∙ h.values.own b y i v at (sym (stored-other b (a, x) v.own ne) ∙ is)))
          (λ j u apart e is. dite (ℕ_discrete a b)
          (λ same. absurd (foreign j u apart e b y is same))
          (λ ne. word-set-other words a b x (λ e. ne (sym e)) ∙ h.values.own b y j u e is));
      base = λ b lt none. dite (ℕ_discrete a b)
          (λ e. absurd (no-option x (stored_at b w.own) (none i w (set-here views i v w at)) (stored-same b (a, x) v.own e)))
          (λ ne. word-set-other words a b x (λ e. ne (sym e)) ∙ h.values.base b lt (untouched-before views i v w b at (λ z. sym (stored-other b (a, x) v.own ne) ∙ z) none));
    } where
      -- no other view has stored at the address
      foreign : (j : ℕ) (u : View) → j ≢ i → At views j u → (b y : ℕ) → stored_at b u.own ≡ Some y → a ≡ b → ⊥
      foreign j u apart e b y is same = let
          of = h.phase.lent i v at out in let
          mine : writes m.plan k a ≡ true = ap (λ (p : Plan). writes p k a) (sym of.plan) ∙ may in let
          o = h.values.owned b y j u e is in let
          theirs : writes m.plan o.0 a ≡ true = subst (λ (c : ℕ). writes m.plan o.0 c ≡ true) (sym same) o.2 in
          dite (ℕ_discrete o.0 k)
          (λ kk. apart (h.tiles.one_holder k j i u v e at (subst (λ (n : ℕ). Holds u n) kk o.1) holds))
          (λ nk. not_both (touches m.plan k a) (write-touches m.plan k a mine) (h.phase.separate o.0 k nk a theirs))

pub store-keeps : (words : List ℕ) (m : View) (views : List View) (i k a x : ℕ) (v : View) → Inv words m views → At views i v → 0 < v.number → Holds v k → writes v.plan k a ≡ true
    → Inv (set words (memory_word a) x) m (set views i (storing_view v a x))
store-keeps words m views i k a x v h at out holds may = record {
  phase = store-keeps-phase words m views i a x v h.phase at out;
  tiles = store-keeps-tiles words m views i a x v h.tiles h.phase.few at;
  values = store-keeps-values words m views i k a x v h at out holds may;
}

-- main's own store, where no plan is posted
pub main-store-keeps : (words : List ℕ) (m : View) (ms : List View) (a x : ℕ) → Inv words m (m ∷ ms) → m.posted ≡ false → a < length m.base
    → Inv (set words (memory_word a) x) (based_view m a x) (based_view m a x ∷ ms)
main-store-keeps words m ms a x h off lt = let
    w : View = based_view m a x in let
    ws : List ℕ = set words (memory_word a) x in let
    empty = h.phase.nothing off in let
    hands : IsEmptyHanded w = record { held = empty.held; known = empty.known; own = empty.own; failed = empty.failed } in let
    spent = all-spent words m ms h.phase (h.phase.none_out off) in let
    shows = shows-store words m.base a x (shows-base words m ms h off) lt in let
    len : length (set m.base a x) ≡ length m.base = length-set m.base a x in let
    raised = flag-set-memory words a x in let
    flag = h.phase.flag in
    record {
      phase = quiet-phase ws w ms spent hands h.phase.main_number (h.phase.none_out off) shows.width (omega arith)
          (λ k lt'. subst (λ (n : ℕ). n ≤ m.epoch) (sym (claim-set-memory words k a x lt')) (h.phase.claims k lt')) (omega arith) h.phase.separate h.phase.few
          (subst (λ (n : ℕ). IsInside n m.plan) (sym len) h.phase.inside) (λ on. absurd (true≢false (sym on ∙ off))) (λ t. raised ∙ h.phase.seen 0 m refl t);
      tiles = quiet-tiles ws w ms spent hands (λ on. absurd (true≢false (sym on ∙ off)));
      values = quiet-values ws w ms spent hands shows;
    }
