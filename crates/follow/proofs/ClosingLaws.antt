-- The chain law, with the scalars expected of the successor.
use Rattle.std.proofs.Common.{◌≡◌, refl, ap, ◌∙◌, sym, subst, ℕ, ℤ, pos, negsuc, ◌-◌, Bool, true, false, List, [], ◌∷◌, length, Option, Some, None, arith, Ordering, Less, Equal, int_cmp}
use Rattle.std.proofs.lemmas.Bool.Decides.{nat_tests}
use Rattle.std.specs.Prelude.{if◌then◌else◌, nat_le}
use Rattle.std.specs.List.{AllByRecursion}
use Rattle.std.specs.Cmp.Lexicographic.{slice_cmp}
use Rattle.std.proofs.lemmas.Cmp.{tied_itself, int_cmp_total, lists_total}
use Rattle.nest_lang.specs.Values.{same}
use Rattle.nest_lang.specs.Lookups.{plain}
use Rattle.nest_lang.specs.Turns.{turns_trace}
use Rattle.orders.specs.Runs.{Outcome}
use Rattle.orders.specs.Chains.{State, Chained, last, within}
use Rattle.orders.specs.Orders.{Ordered, Precedes}
use Rattle.follow.proofs.Undeviated.{undeviated, closed_with, ChainOfChunk}
use Rattle.follow.specs.Forecasts.{same_all, Forecast}
use Rattle.follow.specs.Plans.{Item}
use Rattle.follow.specs.FollowRuns.{follow_run, item_turns}
use Rattle.follow.specs.OriginalOrder.{key}
use Rattle.follow.specs.Successors.{next_scalars, closing_scalars, successor_scalars}
use Rattle.follow.proofs.ChainingLaws.{same_all-exact, chunk-law}
use Rattle.follow.proofs.PlannedOrderLaws.{planned-in_order}

pub same-self : (z : ℤ) → same z z ≡ true
same-self (pos n) = grind (arith, nat_tests)
same-self (negsuc n) = grind (arith, nat_tests)

pub same_all-self : (xs : List ℤ) → same_all xs xs ≡ true
same_all-self [] = refl
same_all-self (x ∷ xs) = rw (same-self x) (same_all-self xs)

equal-less : ◌≡◌ {A = Ordering} Equal Less → ⊥
equal-less e = cc

not-same : (xs ys : List ℤ) → slice_cmp int_cmp xs ys ≡ Less → same_all xs ys ≡ false
not-same xs ys less = at (same_all xs ys) refl
  where
    at : (b : Bool) → same_all xs ys ≡ b → same_all xs ys ≡ false
    at false e = e
    at true e =
        let tied : slice_cmp int_cmp ys ys ≡ Equal = tied_itself (lists_total int_cmp_total) ys in
        let here : slice_cmp int_cmp ys ys ≡ Less = subst (λ (zs : List ℤ). slice_cmp int_cmp zs ys ≡ Less) (same_all-exact xs ys e) less in
        absurd (equal-less (sym tied ∙ here))

module _ (p : Forecast) (k : Item → List ℤ) (closing : List ℤ) where
  abbrev Distinct : Item → Item → Type 0
  Distinct x y = same_all (k x) (k y) ≡ false

  all-two : (P Q R : Item → Type 0) (xs : List Item) → ((x : Item) → P x → Q x → R x) → AllByRecursion P xs → AllByRecursion Q xs → AllByRecursion R xs
  all-two P Q R [] go h i = tt
  all-two P Q R (x ∷ xs) go h i = (go x h.0 i.0, all-two P Q R xs go h.1 i.1)

  if-true : (b : Bool) (us vs : List ℤ) → b ≡ true → (if b then us else vs) ≡ us
  if-true b us vs e = rw e refl

  if-false : (b : Bool) (us vs : List ℤ) → b ≡ false → (if b then us else vs) ≡ vs
  if-false b us vs e = rw e refl

  chained-by : (after : Item → List ℤ) (x : Item) (xs : List Item) → Ordered Distinct (x ∷ xs) → AllByRecursion (λ i. after i ≡ next_scalars p k (x ∷ xs) closing i) (x ∷ xs)
      → Chained (item_turns p after) x xs × (after (last x xs) ≡ closing)
  chained-by after x [] distinct is = (tt, is.0)
  chained-by after x (y ∷ ys) distinct is =
      let more : AllByRecursion (λ i. after i ≡ next_scalars p k (y ∷ ys) closing i) (y ∷ ys) =
      all-two (Distinct x) (λ i. after i ≡ next_scalars p k (x ∷ y ∷ ys) closing i) (λ i. after i ≡ next_scalars p k (y ∷ ys) closing i) (y ∷ ys)
      (λ i d e. e ∙ if-false (same_all (k x) (k i)) (p.scalars y.at) (next_scalars p k (y ∷ ys) closing i) d) distinct.0 is.1 in
      let rest = chained-by after y ys distinct.1 more in
      ((is.0 ∙ if-true (same_all (k x) (k x)) (p.scalars y.at) (next_scalars p k (y ∷ ys) closing x) (same_all-self (k x)), rest.0), rest.1)

  all-same : (P : Item → Type 0) (xs : List Item) → ((x : Item) → P x) → AllByRecursion P xs
  all-same P [] go = tt
  all-same P (x ∷ xs) go = (go x, all-same P xs go)

  distinct-from : (xs : List Item) → Ordered (Precedes (slice_cmp int_cmp) k) xs → Ordered Distinct xs
  distinct-from [] h = tt
  distinct-from (x ∷ xs) h = (one xs h.0, distinct-from xs h.1)
    where
      one : (ys : List Item) → AllByRecursion (Precedes (slice_cmp int_cmp) k x) ys → AllByRecursion (Distinct x) ys
      one [] h = tt
      one (y ∷ ys) h = (not-same (k x) (k y) h.0, one ys h.1)

within-ended : (p : Forecast) (after : Item → List ℤ) (x : Item) (closing : List ℤ) (left : ℕ) (o : Option Outcome) → after x ≡ closing → within (item_turns p after) x left o ≡ closed_with closing left o
within-ended p after x closing left None e = refl
within-ended p after x closing left (Some r) e = ap (λ (z : List ℤ). if nat_le r.steps left then Some (record { memory = r.memory; scalars = z; steps = left - r.steps }) else None) e

pub chain-of-chunk : ChainOfChunk
chain-of-chunk p k loops o c s left x xs room is bound bare sizes =
    let closing : List ℤ = closing_scalars p loops o c in
    let after : Item → List ℤ = successor_scalars p loops o c in
    let ordered : Ordered (Precedes (slice_cmp int_cmp) (key p (length loops))) (x ∷ xs) = subst (λ (ys : List Item). Ordered (Precedes (slice_cmp int_cmp) (key p (length loops))) ys) is (planned-in_order p loops o c) in
    let chained = chained-by p (key p (length loops)) closing after x xs (distinct-from p (key p (length loops)) closing (x ∷ xs) ordered)
    (all-same p (key p (length loops)) closing (λ i. after i ≡ next_scalars p (key p (length loops)) (x ∷ xs) closing i) (x ∷ xs) (λ i. ap (λ (ys : List Item). next_scalars p (key p (length loops)) ys closing i) is)) in
    ap (λ (z : List ℤ). undeviated p z (turns_trace plain k loops o c s) s left) (sym chained.1)
    ∙ chunk-law p after k loops o c s left x xs room is bound chained.0 bare sizes
    ∙ ap (λ (q : Option State). if same_all s.scalars (p.scalars x.at) then q else None) (within-ended p after (last x xs) closing left (follow_run p after (x ∷ xs) s.memory) chained.1)
