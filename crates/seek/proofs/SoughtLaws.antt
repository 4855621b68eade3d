-- The first legal schedule of a list, with a refusal for each before it.
use Rattle.std.proofs.Common.{◌≡◌, refl, sym, ap, ◌∙◌, subst, ℕ, zero, suc, ◌+◌, ◌-◌, ◌<◌, ◌≤◌, ℤ, Bool, true, false, Option, Some, None, is_none, option_map, List, [], ◌∷◌, length, take, get_or, arith}
use Rattle.std.specs.Prelude.{cond, nat_lt, not, slice_get, unwrap_or}
use Rattle.std.specs.List.{cons_option, filter_map, position, position_or_len, range_with_len}
use Rattle.std.proofs.lemmas.List.{length-map, get_or-take, length-take-le}
use Rattle.std.proofs.lemmas.Option.{slice_get_within}
use Rattle.std.proofs.lemmas.List.FromFn.{get_or-map-range_with_len, length-range_with_len}
use Rattle.std.proofs.lemmas.List.Quantifiers.{position-Some}
use Rattle.std.proofs.lemmas.Bool.Decides.{nat_tests}
use Rattle.domain.specs.Tables.{Table}
use Rattle.transform.specs.Schedules.{Schedule}
use Rattle.dependence.specs.Legality.{Legal}
use Rattle.legality.specs.declared.refusals.Refusal.{Refusal}
use Rattle.legality.specs.declared.refusals.Judged.TheVariants as answer
use Rattle.legality.specs.Judgements.{judged_by, refused}
use Rattle.legality.specs.Choices.{Choice, first_legal, is_legal}
use Rattle.legality.proofs.RefusalLaws.{legal-none, none-legal}
use Rattle.seek.specs.ScheduleLists.{count, schedule_at, schedules}
use Rattle.seek.specs.Laws.{AreRefused, FirstIsFound, IsLeastLegal, IsSought, NoneLegalBelow}
use Rattle.seek.proofs.RefutedLaws.{refused-refutes}

-- ---- the list

pub schedules-long : (n : ℕ) → length (schedules n) ≡ count n
schedules-long n = length-map (range_with_len 0 (count n)) (schedule_at n) ∙ length-range_with_len 0 (count n)

pub schedule-there : (n k : ℕ) (d : Schedule) → k < count n → get_or (schedules n) k d ≡ schedule_at n k
schedule-there n k d inside = get_or-map-range_with_len (schedule_at n) 0 (count n) k k d inside (omega arith)

-- ---- a list of which each element gives something

kept-long : {X Y : Type 0} (f : X → Option Y) (xs : List X) → ((k : ℕ) (d : X) → k < length xs → is_none (f (get_or xs k d)) ≡ false) → length (filter_map f xs) ≡ length xs
kept-long f [] each = refl
kept-long {X} {Y} f (x ∷ xs) each = by (f x) (each 0 x (omega arith)) (kept-long f xs (λ k d l. each (suc k) d (omega arith)))
  where
    by : (o : Option Y) → is_none o ≡ false → length (filter_map f xs) ≡ length xs → length (cons_option o (filter_map f xs)) ≡ suc (length xs)
    by None e rest = cc
    by (Some y) e rest = ap suc rest

kept-at : {X Y : Type 0} (f : X → Option Y) (xs : List X) (k : ℕ) (y : Y) (d : X) → ((j : ℕ) (c : X) → j < length xs → is_none (f (get_or xs j c)) ≡ false) → slice_get (filter_map f xs) k ≡ Some y → f (get_or xs k d) ≡ Some y
kept-at f [] k y d each e = cc
kept-at {X} {Y} f (x ∷ xs) k y d each e = by k (f x) refl (each 0 x (omega arith)) (λ j. kept-at f xs j y d (λ i c l. each (suc i) c (omega arith))) e
  where
    by : (j : ℕ) (o : Option Y) → f x ≡ o → is_none o ≡ false → ((i : ℕ) → slice_get (filter_map f xs) i ≡ Some y → f (get_or xs i d) ≡ Some y) → slice_get (cons_option o (filter_map f xs)) j ≡ Some y → f (get_or (x ∷ xs) j d) ≡ Some y
    by j None is some rest e = cc
    by zero (Some z) is some rest e = is ∙ e
    by (suc j) (Some z) is some rest e = rest j e

-- ---- what is sought

not-legal : (t : Table) (L : ℤ) (s : Schedule) → is_legal t L s ≡ false → Legal t s L → ⊥
not-legal t L s e legal = let none : is_legal t L s ≡ true = ap is_none (none-legal t s L legal) in cc

is-none : {X : Type 0} (o : Option X) → is_none o ≡ true → o ≡ None
is-none None e = refl
is-none (Some x) e = cc

legal-there : (t : Table) (L : ℤ) (s : Schedule) → is_legal t L s ≡ true → Legal t s L
legal-there t L s e = legal-none t s L (is-none (refused t L s) e)

number-of : (k number : ℕ) → Some (suc k) ≡ Some number → suc k ≡ number
number-of k number e = cc

next : (k : ℕ) → k + 1 ≡ suc k
next k = omega arith

back : (k : ℕ) → suc k - 1 ≡ k
back k = omega arith

-- the first so many are refused
abbrev FirstRefused : ℕ → Table → ℤ → ℕ → Type 0
FirstRefused n t L m = (k : ℕ) → k < m → is_legal t L (schedule_at n k) ≡ false

none-below : (n : ℕ) (t : Table) (L : ℤ) (m : ℕ) → FirstRefused n t L m → NoneLegalBelow n t L (m + 1)
none-below n t L m first number from to = not-legal t L (schedule_at n (number - 1)) (first (number - 1) (omega arith))

refused-each : (n : ℕ) (t : Table) (L : ℤ) (m : ℕ) → m ≤ count n → FirstRefused n t L m → (k : ℕ) (d : Schedule) → k < length (take m (schedules n)) → is_none (refused t L (get_or (take m (schedules n)) k d)) ≡ false
refused-each n t L m few first k d inside =
    let long = length-take-le m (schedules n) (omega (arith, schedules-long n)) in
    let below : k < m = omega (arith, long, inside) in
    let here : get_or (take m (schedules n)) k d ≡ schedule_at n k = get_or-take m (schedules n) k d below ∙ schedule-there n k d (omega (arith, below, few)) in
    ap (is_legal t L) here ∙ first k below

are-refused : (n : ℕ) (t : Table) (L : ℤ) (m : ℕ) → m ≤ count n → FirstRefused n t L m → AreRefused n t L m (filter_map (refused t L) (take m (schedules n)))
are-refused n t L m few first =
    let long = length-take-le m (schedules n) (omega (arith, schedules-long n)) in
    let many = kept-long (refused t L) (take m (schedules n)) (refused-each n t L m few first) in
    record {
      many = many ∙ long;
      each = λ number r from e.
          let d : Schedule = record { lines = []; seq = 0 } in
          let below : number - 1 < m = omega (arith, slice_get_within _ (number - 1) r e, many, long) in
          let here : get_or (take m (schedules n)) (number - 1) d ≡ schedule_at n (number - 1) = get_or-take m (schedules n) (number - 1) d below ∙ schedule-there n (number - 1) d (omega (arith, below, few)) in
          refused-refutes t L (schedule_at n (number - 1)) r (ap (refused t L) (sym here) ∙ kept-at (refused t L) (take m (schedules n)) (number - 1) r d (refused-each n t L m few first) e);
    }

-- where none passes
none-at : {X : Type 0} (p : X → Bool) (xs : List X) (k : ℕ) (d : X) → length xs ≤ position_or_len p xs → k < length xs → p (get_or xs k d) ≡ false
none-at p [] k d l inside = absurd (omega arith)
none-at p (x ∷ xs) k d l inside = by (λ j. none-at p xs j d) k (p x) refl inside l
  where
    by : ((j : ℕ) → length xs ≤ position_or_len p xs → j < length xs → p (get_or xs j d) ≡ false) → (j : ℕ) (w : Bool) → p x ≡ w → j < suc (length xs) → suc (length xs) ≤ cond (not w) (1 + position_or_len p xs) 0 → p (get_or (x ∷ xs) j d) ≡ false
    by later j true is inside l = absurd (omega arith)
    by later zero false is inside l = is
    by later (suc j) false is inside l = later j (omega arith) (omega arith)

past-end : {X : Type 0} (p : X → Bool) (xs : List X) → position p xs ≡ None → length xs ≤ position_or_len p xs
past-end p xs e = by (nat_lt (position_or_len p xs) (length xs)) refl e
  where
    by : (w : Bool) → nat_lt (position_or_len p xs) (length xs) ≡ w → cond w (Some (position_or_len p xs)) None ≡ None → length xs ≤ position_or_len p xs
    by true is none = cc
    by false is none = grind (arith, nat_tests)

abbrev chosen_at : ℕ → Table → ℤ → Option ℕ → Choice
chosen_at n t L o = record { refusals = filter_map (refused t L) (take (unwrap_or o (length (schedules n))) (schedules n)); legal = option_map suc o }

pub first_is_found : FirstIsFound
first_is_found n t L = by (first_legal t L (schedules n)) refl
  where
    d : Schedule
    d = record { lines = []; seq = 0 }

    by : (o : Option ℕ) → first_legal t L (schedules n) ≡ o → IsSought n t L (chosen_at n t L o)
    by (Some k) is =
        let (inside, passes, before) = position-Some (is_legal t L) (schedules n) k d is in
        let below : k < count n = omega (arith, schedules-long n, inside) in
        let first : FirstRefused n t L k = λ j l. ap (is_legal t L) (sym (schedule-there n j d (omega (arith, below, l)))) ∙ before j l in
        let legal : Legal t (schedule_at n k) L = legal-there t L (schedule_at n k) (ap (is_legal t L) (sym (schedule-there n k d below)) ∙ passes) in
        record {
          some = λ number e. subst (IsLeastLegal n t L) (number-of k number e) (record { from = omega arith; to = omega (arith, below); legal = subst (λ j. Legal t (schedule_at n j) L) (sym (back k)) legal; least = subst (NoneLegalBelow n t L) (next k) (none-below n t L k first) });
          before = λ number e. subst (λ m. AreRefused n t L (m - 1) (filter_map (refused t L) (take k (schedules n)))) (number-of k number e) (subst (λ m. AreRefused n t L m (filter_map (refused t L) (take k (schedules n)))) (sym (back k)) (are-refused n t L k (omega (arith, below)) first));
          none = λ e. cc;
          all = λ e. cc;
        }
    by None is =
        let first : FirstRefused n t L (count n) = λ k l. ap (is_legal t L) (sym (schedule-there n k d l)) ∙ none-at (is_legal t L) (schedules n) k d (past-end (is_legal t L) (schedules n) is) (omega (arith, schedules-long n, l)) in
        let whole : filter_map (refused t L) (take (length (schedules n)) (schedules n)) ≡ filter_map (refused t L) (take (count n) (schedules n)) = ap (λ m. filter_map (refused t L) (take m (schedules n))) (schedules-long n) in
        record {
          some = λ number e. cc;
          before = λ number e. cc;
          none = λ e. none-below n t L (count n) first;
          all = λ e. subst (AreRefused n t L (count n)) (sym whole) (are-refused n t L (count n) (omega arith) first);
        }

-- ---- the search

pub refused-by : (o : Option Refusal) (r : Refusal) → answer.Refused r ≡ judged_by o → Some r ≡ o
refused-by None r e = cc
refused-by (Some q) r e = cc

pub legal-by : (o : Option Refusal) → answer.Legal ≡ judged_by o → o ≡ None
legal-by None e = refl
legal-by (Some q) e = cc
