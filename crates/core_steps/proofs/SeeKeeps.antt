-- A load of the flag keeps the invariant: the seat remembers whether it saw the flag at its epoch.
use Rattle.std.proofs.Common.{◌≡◌, ◌≢◌, ℕ, ◌<◌, true, ◌||◌, eqb, List, ◌∷◌, set, ⊎_elim, refl, ◌∙◌, arith}
use Rattle.std.proofs.lemmas.Bool.{eqb-true, or_cases}
use Rattle.core_steps.specs.declared.view.View.{View}
use Rattle.core_steps.specs.Views.{seeing_view, spent_view}
use Rattle.core_steps.specs.States.{flag_of}
use Rattle.core_steps.specs.Invariant.{At, IsLentBy, Inv}
use Rattle.core_steps.proofs.ViewListLaws.{each-set, each-kept, somewhere-set, one-set}
use Rattle.core_steps.proofs.MoveLaws.{phase-moves, tiles-stay, values-stay}

-- what the seat then has seen is so
saw : (words : List ℕ) (v : View) (epoch : ℕ) → v.epoch ≡ epoch → (v.seen ≡ true → flag_of words ≡ epoch) → (v.seen || eqb (flag_of words) v.epoch) ≡ true → flag_of words ≡ epoch
saw words v epoch same before t = ⊎_elim (λ s. before s) (λ e. eqb-true (flag_of words) v.epoch e ∙ same) (or_cases v.seen (eqb (flag_of words) v.epoch) t)

pub see-keeps : (words : List ℕ) (m : View) (views : List View) (i : ℕ) (v : View) → Inv words m views → At views i v → 0 < v.number → Inv words m (set views i (seeing_view v (flag_of words)))
see-keeps words m views i v h at out = let
    w : View = seeing_view v (flag_of words) in let
    of = h.phase.lent i v at out in
    record {
      phase = phase-moves words words m views i v w h.phase at out (record { number = refl; posted = refl; epoch = refl; base = refl; plan = refl }) refl h.phase.flag h.phase.claims
          (each-kept (λ _ u. u.failed ≡ true → flag_of words ≡ m.epoch) views i v w at (λ t. t) h.phase.failed)
          (λ posted is. somewhere-set (λ u. u.failed ≡ true) views i v w at (λ t. t) (h.phase.failure posted is))
          (each-set (λ _ u. u.seen ≡ true → flag_of words ≡ m.epoch) views i w (saw words v m.epoch of.epoch (h.phase.seen i v at)) (λ j u _ e. h.phase.seen j u e));
      tiles = tiles-stay words words m views i v w h.tiles h.phase.few at (λ k _. refl) refl refl;
      values = values-stay words words m views i v w h.values at (λ a. refl) refl (λ k t. t);
    }

-- main's load of the flag
pub main-see-keeps : (words : List ℕ) (m : View) (ms : List View) → Inv words m (m ∷ ms) → Inv words (seeing_view m (flag_of words)) (seeing_view m (flag_of words) ∷ ms)
main-see-keeps words m ms h = let
    w : View = seeing_view m (flag_of words) in let
    p = h.phase in let
    tiles = tiles-stay words words m (m ∷ ms) 0 m w h.tiles h.phase.few refl (λ k _. refl) refl refl in let
    values = values-stay words words m (m ∷ ms) 0 m w h.values refl (λ a. refl) refl (λ k t. t) in
    record {
      phase = record {
        main_number = p.main_number;
        width = p.width;
        flag = p.flag;
        claims = p.claims;
        stored = p.stored;
        none_out = p.none_out;
        nothing = λ off. let empty = p.nothing off in record { held = empty.held; known = empty.known; own = empty.own; failed = empty.failed };
        separate = p.separate;
        few = p.few;
        inside = p.inside;
        numbers = p.numbers;
        distinct = p.distinct;
        one_view = λ n is_out. somewhere-set (λ u. u.number ≡ n) (m ∷ ms) 0 m w refl (λ e. e) (p.one_view n is_out);
        only_view = λ n some_n. one-set (λ u. u.number ≡ n) (m ∷ ms) 0 m w refl (λ e. e) (p.only_view n some_n);
        lent = each-set (λ _ u. 0 < u.number → IsLentBy w u) (m ∷ ms) 0 w (λ some_n. let none = p.main_number in absurd (omega arith))
            (λ j u _ e some_n. let of = p.lent j u e some_n in record { posted = of.posted; epoch = of.epoch; base = of.base; plan = of.plan; out = of.out });
        spent = each-set (λ j u. j ≢ 0 → u.number ≡ 0 → u ≡ spent_view) (m ∷ ms) 0 w (λ ne _. absurd (ne refl)) (λ j u _ e. p.spent j u e);
        failed = each-kept (λ _ u. u.failed ≡ true → flag_of words ≡ m.epoch) (m ∷ ms) 0 m w refl (λ t. t) p.failed;
        failure = λ posted is. somewhere-set (λ u. u.failed ≡ true) (m ∷ ms) 0 m w refl (λ t. t) (p.failure posted is);
        seen = each-set (λ _ u. u.seen ≡ true → flag_of words ≡ m.epoch) (m ∷ ms) 0 w (saw words m m.epoch refl (p.seen 0 m refl)) (λ j u _ e. p.seen j u e);
      };
      tiles = record { one_holder = tiles.one_holder; once = tiles.once; claimed = tiles.claimed; held = tiles.held; known = tiles.known };
      values = record { owned = values.owned; own = values.own; base = values.base };
    }
