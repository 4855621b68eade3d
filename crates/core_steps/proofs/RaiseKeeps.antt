-- A raise keeps the invariant: the flag is at the epoch, and a view has failed.
use Rattle.std.proofs.Common.{◌≡◌, ℕ, ◌<◌, ◌≤◌, List, set, refl, sym, ◌∙◌, subst, arith, length-set, get_or-set_same}
use Rattle.core_steps.specs.declared.view.View.{View}
use Rattle.core_steps.specs.Views.{failed_view}
use Rattle.core_steps.specs.States.{flag_of}
use Rattle.core_steps.specs.Invariant.{At, Inv}
use Rattle.core_steps.proofs.ViewListLaws.{set-here}
use Rattle.core_steps.proofs.WordListLaws.{claim-set-flag, word-set-flag}
use Rattle.core_steps.proofs.MoveLaws.{phase-moves, tiles-stay, values-stay}

pub raise-keeps : (words : List ℕ) (m : View) (views : List View) (i : ℕ) (v : View) → Inv words m views → At views i v → 0 < v.number → Inv (set words 0 v.epoch) m (set views i (failed_view v))
raise-keeps words m views i v h at out = let
    w : View = failed_view v in let
    ws : List ℕ = set words 0 v.epoch in let
    wide = h.phase.width in let
    of = h.phase.lent i v at out in let
    raised : flag_of ws ≡ m.epoch = get_or-set_same words 0 v.epoch 0 (omega arith) ∙ of.epoch in
    record {
      phase = phase-moves words ws m views i v w h.phase at out (record { number = refl; posted = refl; epoch = refl; base = refl; plan = refl }) (length-set words 0 v.epoch)
          (omega arith) (λ k lt. subst (λ (n : ℕ). n ≤ m.epoch) (sym (claim-set-flag words k v.epoch)) (h.phase.claims k lt))
          (λ _ _ _ _. raised) (λ _ _. (i, w, set-here views i v w at, refl)) (λ _ _ _ _. raised);
      tiles = tiles-stay words ws m views i v w h.tiles h.phase.few at (λ k _. claim-set-flag words k v.epoch) refl refl;
      values = values-stay words ws m views i v w h.values at (λ a. word-set-flag words a v.epoch) refl (λ k t. t);
    }
