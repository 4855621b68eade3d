-- Moves of a place.
use Rattle.std.proofs.Common.{◌≡◌, ℕ, zero, suc, ◌+◌, ◌-◌, ◌*◌, ◌<◌, ◌≤◌, ℤ, pos, ◌+ℤ◌, ◌≤ℤ◌, ◌<ℤ◌, Bool, true, false, List, [], ◌∷◌, ◌++◌, length, append_assoc, refl, sym, ap, ap₂, ◌∙◌, subst, arith}
use Rattle.std.specs.List.{AllByRecursion}
use Rattle.std.proofs.lemmas.Int.{ints}
use Rattle.level_walk.specs.Spaces.{Space, IsWithin, MissesNone, HasNone, points, span, spread}
use Rattle.level_walk.specs.Places.{Place, Stands, later, later_visits, left, left_visits, visits}
use Rattle.level_walk.proofs.SpreadLaws.{span-none, span-more, span-smaller, spread-first, spread-over}
use Rattle.level_walk.proofs.WalkStepLaws.{later-entered, visits-entered, range-entered, range-none}

module _ {A : Type 0} (P : A → Type 0) where
  pub all-front : (xs : List A) (x : A) → AllByRecursion P (xs ++ x ∷ []) → AllByRecursion P xs
  all-front [] x all = tt
  all-front (y ∷ ys) x all = (all.0, all-front ys x all.1)

  pub all-back : (xs : List A) (x : A) → AllByRecursion P (xs ++ x ∷ []) → P x
  all-back [] x all = all.0
  all-back (y ∷ ys) x all = all-back ys x all.1

  pub all-more : (xs : List A) (x : A) → AllByRecursion P xs → P x → AllByRecursion P (xs ++ x ∷ [])
  all-more [] x all h = (h, tt)
  all-more (y ∷ ys) x all h = (all.0, all-more ys x all.1 h)

abbrev pub place_of : List ℤ → List ℤ → Bool → Place
place_of at last done = record { at = at; last = last; done = done }

pub length-more : {A : Type 0} (xs : List A) (x : A) → length (xs ++ x ∷ []) ≡ suc (length xs)
length-more [] x = refl
length-more (y ∷ ys) x = ap suc (length-more ys x)

pub stands-fallen : (s : Space) (at last : List ℤ) (value end : ℤ) (done other : Bool) → Stands s (place_of (at ++ value ∷ []) (last ++ end ∷ []) done) → Stands s (place_of at last other)
stands-fallen s at last value end done other stands =
    let long = stands.long in
    let reach = stands.reach in
    let first = length-more at value in
    let second = length-more last end in
    record {
      few = stands.few;
      long = omega (arith, long, first, second);
      reach = omega (arith, reach, first);
      at = all-front (IsWithin s.least s.greatest) at value stands.at;
      last = all-front (IsWithin s.least s.greatest) last end stands.last;
    }

pub stands-risen : (s : Space) (at last : List ℤ) (value end other : ℤ) (done : Bool) → Stands s (place_of (at ++ value ∷ []) (last ++ end ∷ []) done) → IsWithin s.least s.greatest other → Stands s (place_of (at ++ other ∷ []) (last ++ end ∷ []) done)
stands-risen s at last value end other done stands within =
    let long = stands.long in
    let reach = stands.reach in
    let first = length-more at value in
    let second = length-more at other in
    record {
      few = stands.few;
      long = omega (arith, long, first, second);
      reach = omega (arith, reach, first, second);
      at = all-more (IsWithin s.least s.greatest) at other (all-front (IsWithin s.least s.greatest) at value stands.at) within;
      last = stands.last;
    }

pub stands-entered : (s : Space) (at last : List ℤ) (value end : ℤ) (done : Bool) → Stands s (place_of at last done) → length at < s.levels → IsWithin s.least s.greatest value → IsWithin s.least s.greatest end → Stands s (place_of (at ++ value ∷ []) (last ++ end ∷ []) done)
stands-entered s at last value end done stands below within ends =
    let long = stands.long in
    let first = length-more at value in
    let second = length-more last end in
    record {
      few = stands.few;
      long = omega (arith, long, first, second);
      reach = omega (arith, below, first);
      at = all-more (IsWithin s.least s.greatest) at value stands.at within;
      last = all-more (IsWithin s.least s.greatest) last end stands.last ends;
    }

-- a level whose last value was taken

pub later-fallen : (s : Space) (at last : List ℤ) (value end : ℤ) (done : Bool) → Stands s (place_of (at ++ value ∷ []) (last ++ end ∷ []) done) → end ≤ℤ value
    → later s s.levels [] (at ++ value ∷ []) (last ++ end ∷ []) ≡ later s s.levels [] at last
later-fallen s at last value end done stands over =
    let lower = stands-fallen s at last value end done done stands in
    let long = lower.long in
    let reach = stands.reach in
    let first = length-more at value in
    let entered = later-entered s (s.levels - suc (length at)) s.levels [] at last value end long (omega (arith, reach, first)) in
    entered ∙ ap (λ l. l ++ later s s.levels [] at last) (spread-over (value +ℤ pos 1) end (λ other. points s (s.levels - suc (length at)) (at ++ other ∷ [])) (omega (arith, ints, over)))

pub visits-fallen : (s : Space) (at last : List ℤ) (value end : ℤ) (done : Bool) → Stands s (place_of (at ++ value ∷ []) (last ++ end ∷ []) done) → end ≤ℤ value
    → later_visits s s.levels (at ++ value ∷ []) (last ++ end ∷ []) ≡ later_visits s s.levels at last
visits-fallen s at last value end done stands over =
    let lower = stands-fallen s at last value end done done stands in
    let long = lower.long in
    let reach = stands.reach in
    let first = length-more at value in
    let entered = visits-entered s (s.levels - suc (length at)) s.levels at last value end long (omega (arith, reach, first)) in
    let none : span (value +ℤ pos 1) end ≡ 0 = span-none (value +ℤ pos 1) end (omega (arith, ints, over)) in
    entered ∙ rw none (omega arith)

-- a level that takes its next value

pub left-risen : (s : Space) (at last : List ℤ) (value end : ℤ) (done : Bool) → Stands s (place_of (at ++ value ∷ []) (last ++ end ∷ []) done) → value <ℤ end
    → left s (place_of (at ++ (value +ℤ pos 1) ∷ []) (last ++ end ∷ []) false) ≡ later s s.levels [] (at ++ value ∷ []) (last ++ end ∷ [])
unfolding left
left-risen s at last value end done stands under =
    let lower = stands-fallen s at last value end done done stands in
    let long = lower.long in
    let reach = stands.reach in
    let first = length-more at value in
    let next = length-more at (value +ℤ pos 1) in
    let deep : s.levels ≡ length at + suc (s.levels - suc (length at)) = omega (arith, reach, first) in
    let before = later-entered s (s.levels - suc (length at)) s.levels [] at last value end long deep in
    let after = later-entered s (s.levels - suc (length at)) s.levels [] at last (value +ℤ pos 1) end long deep in
    let count : s.levels - length (at ++ (value +ℤ pos 1) ∷ []) ≡ s.levels - suc (length at) = omega (arith, next) in
    let f : ℤ → List (List ℤ) = λ other. points s (s.levels - suc (length at)) (at ++ other ∷ []) in
    let rest = spread (span ((value +ℤ pos 1) +ℤ pos 1) end) ((value +ℤ pos 1) +ℤ pos 1) f in
    ap₂ (λ k l. points s k (at ++ (value +ℤ pos 1) ∷ []) ++ l) count after
    ∙ sym (append_assoc (f (value +ℤ pos 1)) rest (later s s.levels [] at last))
    ∙ ap (λ l. l ++ later s s.levels [] at last) (sym (spread-first (value +ℤ pos 1) end f (omega (arith, ints, under))))
    ∙ sym before

pub visits-risen : (s : Space) (at last : List ℤ) (value end : ℤ) (done : Bool) → Stands s (place_of (at ++ value ∷ []) (last ++ end ∷ []) done) → value <ℤ end
    → left_visits s (place_of (at ++ (value +ℤ pos 1) ∷ []) (last ++ end ∷ []) false) ≡ later_visits s s.levels (at ++ value ∷ []) (last ++ end ∷ [])
unfolding left_visits
visits-risen s at last value end done stands under =
    let lower = stands-fallen s at last value end done done stands in
    let long = lower.long in
    let reach = stands.reach in
    let first = length-more at value in
    let next = length-more at (value +ℤ pos 1) in
    let deep : s.levels ≡ length at + suc (s.levels - suc (length at)) = omega (arith, reach, first) in
    let before = visits-entered s (s.levels - suc (length at)) s.levels at last value end long deep in
    let after = visits-entered s (s.levels - suc (length at)) s.levels at last (value +ℤ pos 1) end long deep in
    let count : s.levels - length (at ++ (value +ℤ pos 1) ∷ []) ≡ s.levels - suc (length at) = omega (arith, next) in
    let more = span-more (value +ℤ pos 1) end (omega (arith, ints, under)) in
    ap₂ (λ k l. visits s k + l) count after ∙ one-more (visits s (s.levels - suc (length at))) (span ((value +ℤ pos 1) +ℤ pos 1) end) (later_visits s s.levels at last)
    ∙ sym (before ∙ ap (λ k. k * visits s (s.levels - suc (length at)) + later_visits s s.levels at last) more)
  where
    one-more : (v k l : ℕ) → v + (k * v + l) ≡ suc k * v + l
    one-more v k l = omega arith

-- the whole walk is done
pub later-start : (s : Space) (n : ℕ) → later s n [] [] [] ≡ []
unfolding later
later-start s zero = refl
later-start s (suc n) = refl

-- a level is entered

pub left-entered : (s : Space) (at last : List ℤ) (low high : ℤ) → Stands s (place_of at last false) → length at < s.levels → MissesNone s at low high
    → left s (place_of at last false) ≡ left s (place_of (at ++ low ∷ []) (last ++ high ∷ []) false)
unfolding left
left-entered s at last low high stands below misses =
    let long = stands.long in
    let next = length-more at low in
    let deep : s.levels ≡ length at + suc (s.levels - suc (length at)) = omega (arith, below) in
    let here : s.levels - length at ≡ suc (s.levels - suc (length at)) = omega (arith, below) in
    let after = later-entered s (s.levels - suc (length at)) s.levels [] at last low high long deep in
    let count : s.levels - length (at ++ low ∷ []) ≡ s.levels - suc (length at) = omega (arith, next) in
    let f : ℤ → List (List ℤ) = λ other. points s (s.levels - suc (length at)) (at ++ other ∷ []) in
    let rest = spread (span (low +ℤ pos 1) high) (low +ℤ pos 1) f in
    ap (λ k. points s k at ++ later s s.levels [] at last) here
    ∙ ap (λ l. l ++ later s s.levels [] at last) (range-entered s (s.levels - suc (length at)) at low high (sym deep) misses)
    ∙ append_assoc (f low) rest (later s s.levels [] at last)
    ∙ sym (ap₂ (λ k l. points s k (at ++ low ∷ []) ++ l) count after)

pub visits-fewer : (s : Space) (at last : List ℤ) (low high : ℤ) → Stands s (place_of at last false) → length at < s.levels → MissesNone s at low high
    → left_visits s (place_of (at ++ low ∷ []) (last ++ high ∷ []) false) < left_visits s (place_of at last false)
unfolding left_visits visits
visits-fewer s at last low high stands below misses =
    let long = stands.long in
    let next = length-more at low in
    let deep : s.levels ≡ length at + suc (s.levels - suc (length at)) = omega (arith, below) in
    let here : s.levels - length at ≡ suc (s.levels - suc (length at)) = omega (arith, below) in
    let after = visits-entered s (s.levels - suc (length at)) s.levels at last low high long deep in
    let count : s.levels - length (at ++ low ∷ []) ≡ s.levels - suc (length at) = omega (arith, next) in
    let more = span-more low high misses.some in
    let size = span-smaller s.least s.greatest low high misses.low_within.least misses.some misses.high_within.greatest in
    rw (count, here, after) (fewer (visits s (s.levels - suc (length at))) (span (low +ℤ pos 1) high) (span s.least s.greatest) (later_visits s s.levels at last) (omega (arith, more, size)))
  where
    times : (a b v : ℕ) → a ≤ b → a * v ≤ b * v
    times a b v h = grind arith

    fewer : (v k side l : ℕ) → suc k ≤ side → v + (k * v + l) < suc (side * v) + l
    fewer v k side l h = let product = times (suc k) side v h in omega (arith, product)

-- nothing is there

pub left-gone : (s : Space) (at last : List ℤ) → Stands s (place_of at last false) → length at < s.levels → HasNone s at
    → left s (place_of at last false) ≡ later s s.levels [] at last
unfolding left
left-gone s at last stands below none =
    let deep : s.levels ≡ length at + suc (s.levels - suc (length at)) = omega (arith, below) in
    let here : s.levels - length at ≡ suc (s.levels - suc (length at)) = omega (arith, below) in
    ap (λ k. points s k at ++ later s s.levels [] at last) here
    ∙ ap (λ l. l ++ later s s.levels [] at last) (range-none s (s.levels - suc (length at)) at (sym deep) none)

-- a whole point

pub left-whole : (s : Space) (at last : List ℤ) → length at ≡ s.levels → s.accepts at ≡ true → left s (place_of at last false) ≡ at ∷ later s s.levels [] at last
unfolding left points
left-whole s at last whole taken =
    let none : s.levels - length at ≡ 0 = omega arith in
    rw (none, taken) refl

pub left-refused : (s : Space) (at last : List ℤ) → length at ≡ s.levels → s.accepts at ≡ false → left s (place_of at last false) ≡ later s s.levels [] at last
unfolding left points
left-refused s at last whole refused =
    let none : s.levels - length at ≡ 0 = omega arith in
    rw (none, refused) refl

-- each visit counts
pub visits-positive : (s : Space) (n : ℕ) → 0 < visits s n
unfolding visits
visits-positive s zero = omega arith
visits-positive s (suc n) = omega arith

pub later-fewer : (s : Space) (at last : List ℤ) → later_visits s s.levels at last < left_visits s (place_of at last false)
unfolding left_visits
later-fewer s at last = let positive = visits-positive s (s.levels - length at) in omega (arith, positive)

pub stands-done : (s : Space) (at last : List ℤ) (done other : Bool) → Stands s (place_of at last done) → Stands s (place_of at last other)
stands-done s at last done other stands = record { few = stands.few; long = stands.long; reach = stands.reach; at = stands.at; last = stands.last }

-- the same for a place by itself

place-is : (P : Place) → P.done ≡ false → P ≡ place_of P.at P.last false
place-is P e = ap (λ (d : Bool). place_of P.at P.last d) e

pub place-entered : (s : Space) (P new : Place) (outer : List ℤ) (low high first end : ℤ) → Stands s P → P.done ≡ false → length P.at < s.levels → outer ≡ P.at → MissesNone s outer low high → first ≡ low → end ≡ high
    → new ≡ place_of (P.at ++ first ∷ []) (P.last ++ end ∷ []) P.done → (left s P ≡ left s new) × (left_visits s new < left_visits s P)
place-entered s P new outer low high first end stands goes_on below same misses f e is =
    let here = place-is P goes_on in
    let after : new ≡ place_of (P.at ++ low ∷ []) (P.last ++ high ∷ []) false = is ∙ rw (f, e, goes_on) refl in
    let stand : Stands s (place_of P.at P.last false) = subst (Stands s) here stands in
    let miss : MissesNone s P.at low high = subst (λ (o : List ℤ). MissesNone s o low high) same misses in (
      ap (left s) here ∙ left-entered s P.at P.last low high stand below miss ∙ sym (ap (left s) after),
      fewer (left_visits s P) (left_visits s (place_of P.at P.last false)) (left_visits s new) (left_visits s (place_of (P.at ++ low ∷ []) (P.last ++ high ∷ []) false))
          (ap (left_visits s) here) (ap (left_visits s) after) (visits-fewer s P.at P.last low high stand below miss),
    )
  where
    fewer : (a b d e : ℕ) → a ≡ b → d ≡ e → e < b → d < a
    fewer a b d e h k l = omega arith

pub place-gone : (s : Space) (P : Place) (outer : List ℤ) → Stands s P → P.done ≡ false → length P.at < s.levels → outer ≡ P.at → HasNone s outer → left s P ≡ later s s.levels [] P.at P.last
place-gone s P outer stands goes_on below same none =
    let here = place-is P goes_on in
    ap (left s) here ∙ left-gone s P.at P.last (subst (Stands s) here stands) below (subst (λ (o : List ℤ). HasNone s o) same none)

pub place-whole : (s : Space) (P : Place) → P.done ≡ false → length P.at ≡ s.levels → s.accepts P.at ≡ true → left s P ≡ P.at ∷ later s s.levels [] P.at P.last
place-whole s P goes_on whole taken = ap (left s) (place-is P goes_on) ∙ left-whole s P.at P.last whole taken

pub place-refused : (s : Space) (P : Place) → P.done ≡ false → length P.at ≡ s.levels → s.accepts P.at ≡ false → left s P ≡ later s s.levels [] P.at P.last
place-refused s P goes_on whole refused = ap (left s) (place-is P goes_on) ∙ left-refused s P.at P.last whole refused

pub place-fewer : (s : Space) (P : Place) (n : ℕ) → P.done ≡ false → n ≤ later_visits s s.levels P.at P.last → n < left_visits s P
place-fewer s P n goes_on at_most =
    let here : left_visits s P ≡ left_visits s (place_of P.at P.last false) = ap (left_visits s) (place-is P goes_on) in
    let more = later-fewer s P.at P.last in
    omega (arith, here, more, at_most)

pub left-done : (s : Space) (P : Place) → P.done ≡ true → left s P ≡ []
unfolding left
left-done s P e = rw e refl
