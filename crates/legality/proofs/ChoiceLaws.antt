-- The first legal one of some schedules.
use Rattle.std.proofs.Common.{◌≡◌, refl, sym, ap, ◌∙◌, ℕ, suc, ◌+◌, ◌<◌, ◌≤◌, ◌-◌, ℤ, true, false, Option, Some, None, List, [], ◌∷◌, ◌++◌, length, get_or, take, ⊎_elim, arith}
use Rattle.std.specs.Prelude.{slice_get, IfSome}
use Rattle.std.proofs.lemmas.Bool.{cases_lt}
use Rattle.std.proofs.lemmas.Option.{slice_get_read}
use Rattle.std.specs.List.{filter_map, cons_option}
use Rattle.std.proofs.lemmas.List.{take_more, take_all}
use Rattle.domain.specs.Tables.{Table}
use Rattle.domain.proofs.TableLaws.{position-found, position-none}
use Rattle.transform.specs.Schedules.{Schedule}
use Rattle.dependence.specs.Legality.{Legal}
use Rattle.dependence.proofs.RangeLaws.{any-default}
use Rattle.legality.specs.declared.refusals.Refusal.{Refusal}
use Rattle.legality.specs.Judgements.{refused}
use Rattle.legality.specs.Choices.{choice, first_legal, is_legal}
use Rattle.legality.proofs.RefusalLaws.{legal-none}

cons-by : {Y : Type 0} (o : Option Y) (all front back : List Y) → all ≡ front ++ back → cons_option o all ≡ cons_option o front ++ back
cons-by None all front back e = e
cons-by {Y} (Some y) all front back e = ap (λ (zs : List Y). y ∷ zs) e

filter_map-append : {X Y : Type 0} (f : X → Option Y) (xs ys : List X) → filter_map f (xs ++ ys) ≡ filter_map f xs ++ filter_map f ys
filter_map-append f [] ys = refl
filter_map-append f (x ∷ xs) ys = cons-by (f x) (filter_map f (xs ++ ys)) (filter_map f xs) (filter_map f ys) (filter_map-append f xs ys)

-- the first k are refused, with these refusals
pub record AreRefused (t : Table) (L : ℤ) (ss : List Schedule) (k : ℕ) (refusals : List Refusal) : Type 0 where
  pub each : (j : ℕ) (d : Schedule) → j < k → j < length ss → is_legal t L (get_or ss j d) ≡ false
  pub listed : refusals ≡ filter_map (refused t L) (take k ss)

pub none-refused : (t : Table) (L : ℤ) (ss : List Schedule) → AreRefused t L ss 0 []
none-refused t L ss = record { each = λ j d l. absurd (omega arith); listed = refl }

pub one-refused : (t : Table) (L : ℤ) (ss : List Schedule) (k : ℕ) (s : Schedule) (refusals after : List Refusal) (refusal : Refusal) → AreRefused t L ss k refusals → k < length ss → get_or ss k s ≡ s → Some refusal ≡ refused t L s → after ≡ refusals ++ refusal ∷ [] → AreRefused t L ss (k + 1) after
one-refused t L ss k s refusals after refusal h l e r a = record {
  each = λ j d below inside. ⊎_elim (λ b. h.each j d b inside) (λ b. let same : j ≡ k = omega arith in rw (same, any-default ss k d s l, e, ← r) refl) (cases_lt j k);
  listed = a
      ∙ ap (λ (rs : List Refusal). rs ++ refusal ∷ []) h.listed
      ∙ sym (ap (filter_map (refused t L)) (take_more ss k s l ∙ ap (λ (y : Schedule). take k ss ++ y ∷ []) e) ∙ filter_map-append (refused t L) (take k ss) (s ∷ []) ∙ ap (λ (o : Option Refusal). filter_map (refused t L) (take k ss) ++ cons_option o []) (sym r));
}

pub chosen : (t : Table) (L : ℤ) (ss : List Schedule) (k : ℕ) (s : Schedule) (refusals : List Refusal) → AreRefused t L ss k refusals → k < length ss → get_or ss k s ≡ s → refused t L s ≡ None → record { refusals = refusals; legal = Some (k + 1) } ≡ choice t L ss
chosen t L ss k s refusals h l e n =
    let legal : is_legal t L (get_or ss k s) ≡ true = rw (e, n) refl in
    let found : first_legal t L ss ≡ Some k = position-found (is_legal t L) ss s k l (λ j b. h.each j s b (omega arith)) legal in
    let next : k + 1 ≡ suc k = omega arith in
    rw (found, h.listed, next) refl

pub none-chosen : (t : Table) (L : ℤ) (ss : List Schedule) (k : ℕ) (s : Schedule) (refusals : List Refusal) → AreRefused t L ss k refusals → length ss ≤ k → record { refusals = refusals; legal = None } ≡ choice t L ss
none-chosen t L ss k s refusals h l =
    let none : first_legal t L ss ≡ None = position-none (is_legal t L) ss s (length ss) (omega arith) (λ j b. h.each j s (omega arith) b) in
    rw (none, h.listed, take_all k ss l, take_all (length ss) ss (omega arith)) refl

pub chosen-legal : (t : Table) (L : ℤ) (ss : List Schedule) (k : ℕ) (s : Schedule) → k < length ss → get_or ss k s ≡ s → refused t L s ≡ None → IfSome (slice_get ss (k + 1 - 1)) (λ r. Legal t r L)
chosen-legal t L ss k s l e n =
    let back : k + 1 - 1 ≡ k = omega arith in
    let here : slice_get ss k ≡ Some s = slice_get_read ss (length ss) k s refl l (sym e) in
    rw (back, here) (legal-none t s L n)
