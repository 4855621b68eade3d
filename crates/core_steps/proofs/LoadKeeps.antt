-- A load changes nothing, and answers the seat's own value, or else the base's.
use Rattle.std.proofs.Common.{◌≡◌, ℕ, ◌<◌, true, false, List, ◌∷◌, length, Option, Some, None, get_or, refl, sym, ap, ◌∙◌, subst}
use Rattle.std.specs.Prelude.{unwrap_or}
use mathlib.Core.Logic.{dite}
use native.Mathlib.Decide.{ℕ_discrete}
use Rattle.core_steps.specs.declared.plan.Plan.{Plan}
use Rattle.core_steps.specs.declared.view.View.{View}
use Rattle.core_steps.specs.Plans.{touches}
use Rattle.core_steps.specs.Views.{Holds, stored_at, value_at}
use Rattle.core_steps.specs.States.{word_of}
use Rattle.core_steps.specs.Invariant.{At, IsUntouched, Inv}
use Rattle.core_steps.proofs.NumberListLaws.{not_both}
use Rattle.core_steps.proofs.StoreListLaws.{no-option}
use Rattle.core_steps.proofs.ViewListLaws.{at-same}
use Rattle.core_steps.proofs.QuietViewLaws.{shows-base}

-- a worker that touches an address of a tile that it holds finds its own value there, or else the base's
pub load-value : (words : List ℕ) (m : View) (views : List View) (i k a : ℕ) (v : View) → Inv words m views → At views i v → 0 < v.number → Holds v k → touches v.plan k a ≡ true → word_of words a ≡ value_at v a
load-value words m views i k a v h at out holds may = by-case (stored_at a v.own) refl where
  untouched : stored_at a v.own ≡ None → IsUntouched views a
  untouched none j u e = let
      of = h.phase.lent i v at out in let
      mine : touches m.plan k a ≡ true = ap (λ (p : Plan). touches p k a) (sym of.plan) ∙ may in
      by-option (stored_at a u.own) refl where
        by-option : (o : Option ℕ) → stored_at a u.own ≡ o → o ≡ None
        by-option None _ = refl
        by-option (Some y) q = let o = h.values.owned a y j u e q in dite (ℕ_discrete j i)
            (λ same. absurd (no-option y (stored_at a v.own) none (subst (λ (z : View). stored_at a z.own ≡ Some y) (at-same views i u v (subst (λ (n : ℕ). At views n u) same e) at) q)))
            (λ ne. dite (ℕ_discrete o.0 k)
            (λ kk. absurd (ne (h.tiles.one_holder k j i u v e at (subst (λ (n : ℕ). Holds u n) kk o.1) holds)))
            (λ nk. absurd (not_both (touches m.plan k a) (let of = h.phase.lent i v at out in ap (λ (p : Plan). touches p k a) (sym of.plan) ∙ may) (h.phase.separate o.0 k nk a o.2))))

  by-case : (o : Option ℕ) → stored_at a v.own ≡ o → word_of words a ≡ unwrap_or o (get_or v.base a 0)
  by-case None is = let
      of = h.phase.lent i v at out in let
      mine : touches m.plan k a ≡ true = ap (λ (p : Plan). touches p k a) (sym of.plan) ∙ may in
      h.values.base a (h.phase.inside k a mine) (untouched is) ∙ ap (λ (b : List ℕ). get_or b a 0) (sym of.base)
  by-case (Some x) is = h.values.own a x i v at is

-- main, between phases, finds the base's
pub main-load-value : (words : List ℕ) (m : View) (ms : List View) (a : ℕ) → Inv words m (m ∷ ms) → m.posted ≡ false → a < length m.base → word_of words a ≡ value_at m a
main-load-value words m ms a h off lt = let shows = shows-base words m ms h off in
    shows.values a lt ∙ ap (λ (l : List (ℕ × ℕ)). unwrap_or (stored_at a l) (get_or m.base a 0)) (sym (h.phase.nothing off).own)
