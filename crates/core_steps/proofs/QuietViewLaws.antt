-- A state in which no seat is out and nothing is taken over.
use Rattle.std.proofs.Common.{◌≡◌, ◌≢◌, ℕ, zero, suc, ◌+◌, ◌<◌, ◌≤◌, true, false, true≢false, List, [], ◌∷◌, length, Option, Some, None, get_or, refl, sym, ap, ◌∙◌, subst, arith}
use Rattle.std.specs.Prelude.{unwrap_or}
use mathlib.Core.Option.{some-injective}
use mathlib.Core.Logic.{dite}
use native.Mathlib.Decide.{ℕ_discrete}
use Rattle.core_steps.specs.declared.view.View.{View}
use Rattle.core_steps.specs.Plans.{IsSeparate, IsInside}
use Rattle.core_steps.specs.Views.{stored_at, overlaid, spent_view}
use Rattle.core_steps.specs.States.{flag_of, claim_of, word_of}
use Rattle.core_steps.specs.Invariant.{At, Each, IsEmptyHanded, PhaseIsSound, TilesAreSound, ValuesAreSound, Inv}
use Rattle.core_steps.proofs.NumberListLaws.{has-none, single-empty}
use Rattle.core_steps.proofs.StoreListLaws.{no-option, length-overlaid, overlaid-at}
use Rattle.core_steps.proofs.WordListLaws.{ShowsMemory}

abbrev pub AreSpent : List View → Type 0
AreSpent ms = Each (λ _ u. u ≡ spent_view) ms

-- where no number is out, all views but main's are spent
pub all-spent : (words : List ℕ) (m : View) (ms : List View) → PhaseIsSound words m (m ∷ ms) → m.out ≡ [] → AreSpent ms
all-spent words m ms h empty j u at = dite (ℕ_discrete u.number 0)
    (λ none. h.spent (suc j) u at (λ e. omega arith) none)
    (λ some_n. absurd (has-none u.number m.out empty (h.lent (suc j) u at (omega arith)).out))

pub spent-hands : IsEmptyHanded spent_view
spent-hands = record { held = refl; known = refl; own = refl; failed = refl }

hands : (w : View) (ms : List View) → IsEmptyHanded w → AreSpent ms → Each (λ _ u. IsEmptyHanded u) (w ∷ ms)
hands w ms empty spent zero u e = subst IsEmptyHanded (some-injective w u e) empty
hands w ms empty spent (suc j) u e = subst IsEmptyHanded (sym (spent j u e)) spent-hands

numbers : (w : View) (ms : List View) → w.number ≡ 0 → AreSpent ms → Each (λ _ u. u.number ≡ 0) (w ∷ ms)
numbers w ms none spent zero u e = subst (λ (z : View). z.number ≡ 0) (some-injective w u e) none
numbers w ms none spent (suc j) u e = ap (λ (z : View). z.number) (spent j u e)

seen-by : (w : View) (ms : List View) (P : Type 0) → (w.seen ≡ true → P) → AreSpent ms → Each (λ _ u. u.seen ≡ true → P) (w ∷ ms)
seen-by w ms P main spent zero u e t = main (subst (λ (z : View). z.seen ≡ true) (sym (some-injective w u e)) t)
seen-by w ms P main spent (suc j) u e t = absurd (true≢false (sym t ∙ ap (λ (z : View). z.seen) (spent j u e)))

later-spent : (w : View) (ms : List View) → AreSpent ms → Each (λ j u. j ≢ 0 → u.number ≡ 0 → u ≡ spent_view) (w ∷ ms)
later-spent w ms spent zero u e ne _ = absurd (ne refl)
later-spent w ms spent (suc j) u e _ _ = spent j u e

pub quiet-phase : (words : List ℕ) (w : View) (ms : List View) → AreSpent ms → IsEmptyHanded w → w.number ≡ 0 → w.out ≡ [] → length words ≡ 65537 + length w.base
    → flag_of words ≤ w.epoch → ((k : ℕ) → k < 65536 → claim_of words k ≤ w.epoch) → w.stored ≤ w.epoch → IsSeparate w.plan → length w.plan.tiles ≤ 65536 → IsInside (length w.base) w.plan
    → (w.posted ≡ true → flag_of words ≢ w.epoch) → (w.seen ≡ true → flag_of words ≡ w.epoch) → PhaseIsSound words w (w ∷ ms)
quiet-phase words w ms spent empty number out width flag claims stored separate few inside unraised seen = let
    none = numbers w ms number spent in
    record {
      main_number = number;
      width = width;
      flag = flag;
      claims = claims;
      stored = stored;
      none_out = λ _. out;
      nothing = λ _. empty;
      separate = separate;
      few = few;
      inside = inside;
      numbers = λ n is_out. absurd (has-none n w.out out is_out);
      distinct = single-empty w.out out;
      one_view = λ n is_out. absurd (has-none n w.out out is_out);
      only_view = λ n some_n p q u z e f a b. let z' = none p u e in absurd (omega arith);
      lent = λ j u e some_n. let z = none j u e in absurd (omega arith);
      spent = later-spent w ms spent;
      failed = λ j u e t. absurd (true≢false (sym t ∙ (hands w ms empty spent j u e).failed));
      failure = λ posted is. absurd (unraised posted is);
      seen = seen-by w ms (flag_of words ≡ w.epoch) seen spent;
    }

pub quiet-tiles : (words : List ℕ) (w : View) (ms : List View) → AreSpent ms → IsEmptyHanded w → (w.posted ≡ true → (k : ℕ) → k < length w.plan.tiles → claim_of words k ≢ w.epoch) → TilesAreSound words w (w ∷ ms)
quiet-tiles words w ms spent empty unclaimed = let
    all = hands w ms empty spent in
    record {
      one_holder = λ k p q u z e f a b. absurd (has-none k u.held (all p u e).held a);
      once = λ j u e. single-empty u.held (all j u e).held;
      claimed = λ k j u e t. absurd (has-none k u.held (all j u e).held t);
      held = λ posted k lt is. absurd (unclaimed posted k lt is);
      known = λ k j u e t. absurd (has-none k u.known (all j u e).known t);
    }

pub quiet-values : (words : List ℕ) (w : View) (ms : List View) → AreSpent ms → IsEmptyHanded w → ShowsMemory words w.base → ValuesAreSound words w (w ∷ ms)
quiet-values words w ms spent empty shows = let
    nothing : (a x j : ℕ) (u : View) → At (w ∷ ms) j u → ¬ (stored_at a u.own ≡ Some x) = λ a x j u e is. no-option x (stored_at a u.own) (ap (λ (l : List (ℕ × ℕ)). stored_at a l) (hands w ms empty spent j u e).own) is in
    record {
      owned = λ a x j u e is. absurd (nothing a x j u e is);
      own = λ a x j u e is. absurd (nothing a x j u e is);
      base = λ a lt _. shows.values a lt;
    }

-- where no number is out, the words are the base with what main took over
pub shows-values : (words : List ℕ) (m : View) (ms : List View) → Inv words m (m ∷ ms) → m.out ≡ [] → ShowsMemory words (overlaid m.own m.base)
shows-values words m ms h empty = let
    spent = all-spent words m ms h.phase empty in let
    len : length (overlaid m.own m.base) ≡ length m.base = length-overlaid m.own m.base in let
    wide = h.phase.width in
    record { width = omega arith; values = λ a lt. value a (omega arith) ∙ sym (overlaid-at a m.own m.base (omega arith)) } where
      untouched : (a : ℕ) → stored_at a m.own ≡ None → Each (λ _ u. stored_at a u.own ≡ None) (m ∷ ms)
      untouched a is zero u e = subst (λ (z : View). stored_at a z.own ≡ None) (some-injective m u e) is
      untouched a is (suc j) u e = ap (λ (z : View). stored_at a z.own) (all-spent words m ms h.phase empty j u e)

      by-case : (a : ℕ) → a < length m.base → (o : Option ℕ) → stored_at a m.own ≡ o → word_of words a ≡ unwrap_or o (get_or m.base a 0)
      by-case a lt None is = h.values.base a lt (untouched a is)
      by-case a lt (Some x) is = h.values.own a x 0 m refl is

      value : (a : ℕ) → a < length m.base → word_of words a ≡ unwrap_or (stored_at a m.own) (get_or m.base a 0)
      value a lt = by-case a lt (stored_at a m.own) refl

-- without a plan the words are main's base
pub shows-base : (words : List ℕ) (m : View) (ms : List View) → Inv words m (m ∷ ms) → m.posted ≡ false → ShowsMemory words m.base
shows-base words m ms h off = subst (λ (l : List (ℕ × ℕ)). ShowsMemory words (overlaid l m.base)) (h.phase.nothing off).own (shows-values words m ms h (h.phase.none_out off))
