-- Points and their fronts.
use Rattle.std.proofs.Common.{◌≡◌, ℕ, zero, suc, ◌+◌, ◌<◌, ℤ, pos, ◌+ℤ◌, true, false, List, [], ◌∷◌, ◌++◌, length, length-append, append_assoc, inl, refl, sym, ap, ap₂, ◌∙◌, subst, arith}
use Rattle.std.specs.Prelude.{if◌then◌else◌, Option, Some, None, IfSome}
use Rattle.std.specs.List.{flat_map}
use Rattle.std.proofs.lemmas.Int.{ints}
use Rattle.plain_lemmas.specs.Lists.{Has}
use Rattle.level_walk.specs.Spaces.{Space, IsPoint, MissesNone, HasNone, points, span, spread}
use Rattle.level_walk.specs.Fronts.{IsExact, fronts, is_some, of_fronts, run}
use Rattle.level_walk.proofs.PointLaws.{points-from}
use Rattle.level_walk.proofs.WalkStepLaws.{range-entered, range-none}
use Rattle.level_walk.proofs.SpreadLaws.{spread-first, span-inside}
use Rattle.std.proofs.lemmas.List.{append-nil}
use Rattle.std.proofs.lemmas.Grind.{flat_map-append}

module _ {A B : Type 0} where
  flat-spread : (g : A → List B) (n : ℕ) (first : ℤ) (f : ℤ → List A) → flat_map g (spread n first f) ≡ spread n first (λ v. flat_map g (f v))
  flat-spread g zero first f = refl
  flat-spread g (suc n) first f = flat_map-append g (f first) (spread n (first +ℤ pos 1) f) ∙ ap (λ l. flat_map g (f first) ++ l) (flat-spread g n (first +ℤ pos 1) f)

module _ {A : Type 0} where
  pub spread-same : (n : ℕ) (first : ℤ) (f g : ℤ → List A) → ((v : ℤ) → f v ≡ g v) → spread n first f ≡ spread n first g
  spread-same zero first f g same = refl
  spread-same (suc n) first f g same = ap₂ (λ x l. x ++ l) (same first) (spread-same n (first +ℤ pos 1) f g same)

  -- where f and g agree below
  pub spread-same-below : (n : ℕ) (first : ℤ) (f g : ℤ → List A) → ((i : ℕ) → i < n → f (first +ℤ pos i) ≡ g (first +ℤ pos i)) → spread n first f ≡ spread n first g
  spread-same-below zero first f g same = refl
  spread-same-below (suc n) first f g same =
      let start : first ≡ first +ℤ pos 0 = omega (arith, ints) in
      let here : f first ≡ g first = subst (λ (v : ℤ). f v ≡ g v) (sym start) (same 0 (omega arith)) in
      ap₂ (λ x l. x ++ l) here (spread-same-below n (first +ℤ pos 1) f g (λ i h.
      let at : (first +ℤ pos 1) +ℤ pos i ≡ first +ℤ pos (suc i) = omega (arith, ints) in
      subst (λ (v : ℤ). f v ≡ g v) (sym at) (same (suc i) (omega arith))))

pub fronts-points : (s : Space) (n : ℕ) (outer : List ℤ) → points s (suc n) outer ≡ of_fronts s (points (fronts s) n outer)
unfolding points
fronts-points s zero outer = at (points s 1 outer) refl
  where
    at : (list : List (List ℤ)) → points s 1 outer ≡ list → points s 1 outer ≡ flat_map (λ front. points s 1 front) (if is_some list then outer ∷ [] else [])
    at [] e = e
    at (x ∷ xs) e = sym (append-nil (points s 1 outer))
fronts-points s (suc n) outer =
    spread-same (span s.least s.greatest) s.least (λ v. points s (suc n) (outer ++ v ∷ [])) (λ v. of_fronts s (points (fronts s) n (outer ++ v ∷ []))) (λ v. fronts-points s n (outer ++ v ∷ []))
    ∙ sym (flat-spread (λ front. points s 1 front) (span s.least s.greatest) s.least (λ v. points (fronts s) n (outer ++ v ∷ [])))

-- some last value is there

some-from : (list : List (List ℤ)) → is_some list ≡ true → (point : List ℤ) × Has list point
some-from [] e = absurd (let wrong : false ≡ true = e in cc)
some-from (x ∷ xs) e = (x, inl refl)

pub some-to : (list : List (List ℤ)) (point : List ℤ) → Has list point → is_some list ≡ true
some-to [] point h = absurd h
some-to (x ∷ xs) point h = refl

-- the range of a level before the last serves the fronts too
pub fronts-misses : (s : Space) (outer : List ℤ) (low high : ℤ) → 0 < s.levels → MissesNone s outer low high → MissesNone (fronts s) outer low high
fronts-misses s outer low high some misses = record {
  low_within = misses.low_within;
  high_within = misses.high_within;
  some = misses.some;
  holds = λ value rest long within is.
      let (point, has) = some-from (points s 1 (outer ++ value ∷ rest)) is in
      let from = points-from s 1 (outer ++ value ∷ rest) point has in
      let more = length-append rest from.rest in
      let one = from.long in
      misses.holds value (rest ++ from.rest) (omega (arith, more, one, long, some)) within
      (ap s.accepts (sym (append_assoc outer (value ∷ rest) from.rest)) ∙ ap s.accepts (sym from.is) ∙ from.accepted);
}

pub fronts-none : (s : Space) (outer : List ℤ) → 0 < s.levels → HasNone s outer → HasNone (fronts s) outer
fronts-none s outer some none value rest long within is =
    let (point, has) = some-from (points s 1 (outer ++ value ∷ rest)) is in
    let from = points-from s 1 (outer ++ value ∷ rest) point has in
    let more = length-append rest from.rest in
    let one = from.long in
    none value (rest ++ from.rest) (omega (arith, more, one, long, some)) within
    (ap s.accepts (sym (append_assoc outer (value ∷ rest) from.rest)) ∙ ap s.accepts (sym from.is) ∙ from.accepted)

-- the last range is the run of a front

pub run-points : (s : Space) (front : List ℤ) (low high : ℤ) → length front + 1 ≡ s.levels → MissesNone s front low high → IsExact s front low high → points s 1 front ≡ run front low high
unfolding points
run-points s front low high last misses exact =
    let f : ℤ → List (List ℤ) = λ value. points s 0 (front ++ value ∷ []) in
    range-entered s 0 front low high last misses ∙ sym (spread-first low high f misses.some)
    ∙ spread-same-below (span low high) low f (λ value. (front ++ value ∷ []) ∷ []) (λ i h. taken (low +ℤ pos i) (exact.accepts (low +ℤ pos i) (omega (arith, ints)) (span-inside low high i h)))
  where
    taken : (value : ℤ) → s.accepts (front ++ value ∷ []) ≡ true → (if s.accepts (front ++ value ∷ []) then (front ++ value ∷ []) ∷ [] else []) ≡ (front ++ value ∷ []) ∷ []
    taken value e = rw e refl

pub run-some : (s : Space) (front : List ℤ) (low high : ℤ) → length front + 1 ≡ s.levels → MissesNone s front low high → IsExact s front low high → is_some (points s 1 front) ≡ true
run-some s front low high last misses exact =
    ap is_some (run-points s front low high last misses exact ∙ spread-first low high (λ value. (front ++ value ∷ []) ∷ []) misses.some)

pub run-none : (s : Space) (front : List ℤ) → length front + 1 ≡ s.levels → HasNone s front → points s 1 front ≡ []
run-none s front last none = range-none s 0 front last none

pub if-some-more : {A : Type 0} (P Q : A → Type 0) (o : Option A) → ((x : A) → P x → Q x) → IfSome o P → IfSome o Q
if-some-more P Q None more h = tt
if-some-more P Q (Some x) more h = more x h

-- a front that was found has a range
pub front-has-range : (s : Space) (front outer : List ℤ) → 0 < s.levels → IsPoint (fronts s) front → outer ≡ front → HasNone s outer → ⊥
front-has-range s front outer some is same none =
    let long = is.long in
    let empty = run-none s front (omega (arith, long, some)) (subst (λ (o : List ℤ). HasNone s o) same none) in
    let wrong : false ≡ true = ap is_some (sym empty) ∙ is.accepted in
    cc

pub front-run : (s : Space) (front outer : List ℤ) (low high : ℤ) → 0 < s.levels → IsPoint (fronts s) front → outer ≡ front → MissesNone s outer low high → (length outer + 1 ≡ s.levels → IsExact s outer low high)
    → points s 1 front ≡ run front low high
front-run s front outer low high some is same misses exact =
    let long = is.long in
    let last : length outer + 1 ≡ s.levels = let size : length outer ≡ length front = ap length same in omega (arith, long, some, size) in
    subst (λ (o : List ℤ). points s 1 o ≡ run o low high) same (run-points s outer low high last misses (exact last))

-- the same for the last m values
