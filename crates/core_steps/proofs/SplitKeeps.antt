-- A split keeps the invariant: main lends a seat, whose view holds nothing yet.
use Rattle.std.proofs.Common.{◌≡◌, ◌≢◌, ℕ, zero, suc, ◌<◌, true, false, true≢false, List, [], ◌∷◌, ◌++◌, length, Some, None, ⊎_elim, refl, sym, ap, ◌∙◌, subst, arith}
use mathlib.Core.Option.{some-injective}
use mathlib.Core.Logic.{dite}
use native.Mathlib.Decide.{ℕ_discrete}
use Rattle.core_steps.specs.declared.view.View.{View}
use Rattle.core_steps.specs.Numbers.{has, IsSingle}
use Rattle.core_steps.specs.Plans.{writes}
use Rattle.core_steps.specs.Views.{Holds, Knows, stored_at, spent_view, lending_view, lent_view}
use Rattle.core_steps.specs.States.{flag_of, claim_of, word_of}
use Rattle.core_steps.specs.Invariant.{Each, AtMostOne, IsUntouched, IsLentBy, PhaseIsSound, TilesAreSound, ValuesAreSound, Inv}
use Rattle.core_steps.proofs.NumberListLaws.{has-here, has-there, has-cons}
use Rattle.core_steps.proofs.StoreListLaws.{no-option}
use Rattle.core_steps.proofs.ViewListLaws.{at-last, at-longer, each-lent, somewhere-lent, one-lent, one-last}

pub split-keeps-phase : (words : List ℕ) (m : View) (ms : List View) (w : ℕ) → PhaseIsSound words m (m ∷ ms) → m.posted ≡ true → 0 < w → has w m.out ≡ false
    → PhaseIsSound words (lending_view m w) (lending_view m w ∷ (ms ++ lent_view m w ∷ []))
split-keeps-phase words m ms w h on some-w fresh = let
    l : View = lending_view m w in let
    v : View = lent_view m w in let
    main_number = h.main_number in let
    none-w : Each (λ _ u. ¬ (u.number ≡ w)) (m ∷ ms) = λ j u e is. let of = h.lent j u e (omega arith) in true≢false (sym of.out ∙ ap (λ (n : ℕ). has n m.out) is ∙ fresh) in
    record {
      main_number = h.main_number;
      width = h.width;
      flag = h.flag;
      claims = h.claims;
      stored = h.stored;
      none_out = λ off. absurd (true≢false (sym on ∙ off));
      nothing = λ off. absurd (true≢false (sym on ∙ off));
      separate = h.separate;
      few = h.few;
      inside = h.inside;
      numbers = λ n is_out. ⊎_elim (λ e. subst (λ (y : ℕ). 0 < y) (sym e) some-w) (λ r. h.numbers n r) (has-cons n w m.out is_out);
      distinct = (fresh, h.distinct);
      one_view = λ n is_out. ⊎_elim (λ e. (suc (length ms), v, at-last ms v, sym e)) (λ r. somewhere-lent (λ u. u.number ≡ n) m l v ms (λ e. e) (h.one_view n r)) (has-cons n w m.out is_out);
      only_view = λ n some_n. dite (ℕ_discrete n w)
          (λ e. subst (λ (y : ℕ). AtMostOne (λ u. u.number ≡ y) (l ∷ (ms ++ v ∷ []))) (sym e) (one-last (λ u. u.number ≡ w) m l v ms (λ z. omega arith) none-w))
          (λ ne. one-lent (λ u. u.number ≡ n) m l v ms (λ z. z) (λ z. ne (sym z)) (h.only_view n some_n));
      lent = each-lent (λ _ u. 0 < u.number → IsLentBy l u) m l v ms (λ some_n. absurd (omega arith)) (λ _. record { posted = refl; epoch = refl; base = refl; plan = refl; out = has-here w m.out })
          (λ j u e some_n. let of = h.lent j u e some_n in record { posted = of.posted; epoch = of.epoch; base = of.base; plan = of.plan; out = has-there u.number w m.out of.out });
      spent = each-lent (λ j u. j ≢ 0 → u.number ≡ 0 → u ≡ spent_view) m l v ms (λ ne _. absurd (ne refl)) (λ _ none. absurd (omega arith)) h.spent;
      failed = each-lent (λ _ u. u.failed ≡ true → flag_of words ≡ m.epoch) m l v ms (h.failed 0 m refl) (λ t. absurd (true≢false (sym t))) h.failed;
      failure = λ posted is. somewhere-lent (λ u. u.failed ≡ true) m l v ms (λ t. t) (h.failure posted is);
      seen = each-lent (λ _ u. u.seen ≡ true → flag_of words ≡ m.epoch) m l v ms (h.seen 0 m refl) (λ t. absurd (true≢false (sym t))) h.seen;
    }

pub split-keeps-tiles : (words : List ℕ) (m : View) (ms : List View) (w : ℕ) → TilesAreSound words m (m ∷ ms) → TilesAreSound words (lending_view m w) (lending_view m w ∷ (ms ++ lent_view m w ∷ []))
split-keeps-tiles words m ms w h = let
    l : View = lending_view m w in let
    v : View = lent_view m w in
    record {
      one_holder = λ k. one-lent (λ u. Holds u k) m l v ms (λ t. t) (λ t. true≢false (sym t)) (h.one_holder k);
      once = each-lent (λ _ u. IsSingle u.held) m l v ms (h.once 0 m refl) tt h.once;
      claimed = λ k. each-lent (λ _ u. Holds u k → (k < length m.plan.tiles) × (claim_of words k ≡ m.epoch)) m l v ms (h.claimed k 0 m refl) (λ t. absurd (true≢false (sym t))) (h.claimed k);
      held = λ posted k lt is. somewhere-lent (λ u. Holds u k) m l v ms (λ t. t) (h.held posted k lt is);
      known = λ k. each-lent (λ _ u. Knows u k → (k < length m.plan.tiles) × (claim_of words k ≡ m.epoch)) m l v ms (h.known k 0 m refl) (λ t. absurd (true≢false (sym t))) (h.known k);
    }

untouched-before : (m l v : View) (ms : List View) (a : ℕ) → l.own ≡ m.own → IsUntouched (l ∷ (ms ++ v ∷ [])) a → IsUntouched (m ∷ ms) a
untouched-before m l v ms a same none zero u e = subst (λ (z : View). stored_at a z.own ≡ None) (some-injective m u e) (ap (λ (o : List (ℕ × ℕ)). stored_at a o) (sym same) ∙ none 0 l refl)
untouched-before m l v ms a same none (suc j) u e = none (suc j) u (at-longer ms (v ∷ []) j u e)

pub split-keeps-values : (words : List ℕ) (m : View) (ms : List View) (w : ℕ) → ValuesAreSound words m (m ∷ ms) → ValuesAreSound words (lending_view m w) (lending_view m w ∷ (ms ++ lent_view m w ∷ []))
split-keeps-values words m ms w h = let
    l : View = lending_view m w in let
    v : View = lent_view m w in
    record {
      owned = λ a x. each-lent (λ _ u. stored_at a u.own ≡ Some x → (k : ℕ) × Holds u k × (writes m.plan k a ≡ true)) m l v ms (h.owned a x 0 m refl) (λ t. absurd (no-option x None refl t)) (h.owned a x);
      own = λ a x. each-lent (λ _ u. stored_at a u.own ≡ Some x → word_of words a ≡ x) m l v ms (h.own a x 0 m refl) (λ t. absurd (no-option x None refl t)) (h.own a x);
      base = λ a lt none. h.base a lt (untouched-before m l v ms a refl none);
    }

pub split-keeps : (words : List ℕ) (m : View) (ms : List View) (w : ℕ) → Inv words m (m ∷ ms) → m.posted ≡ true → 0 < w → has w m.out ≡ false
    → Inv words (lending_view m w) (lending_view m w ∷ (ms ++ lent_view m w ∷ []))
split-keeps words m ms w h on some-w fresh = record {
  phase = split-keeps-phase words m ms w h.phase on some-w fresh;
  tiles = split-keeps-tiles words m ms w h.tiles;
  values = split-keeps-values words m ms w h.values;
}
