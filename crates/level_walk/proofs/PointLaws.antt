-- The points of a space: exactly its set, in lexicographic order.
use Rattle.std.proofs.Common.{◌≡◌, ℕ, zero, suc, ◌<◌, ℤ, pos, negsuc, ◌+ℤ◌, ◌-ℤ◌, ◌≤ℤ◌, ◌<ℤ◌, Bool, true, false, List, [], ◌∷◌, ◌++◌, length, append_assoc, refl, sym, ap, ◌∙◌, subst, inl, inr, ⊎_elim, int_cmp, arith}
use Rattle.std.specs.Prelude.{if◌then◌else◌}
use Rattle.std.specs.Cmp.Lexicographic.{slice_cmp}
use Rattle.std.proofs.lemmas.Int.{ints}
use Rattle.orders.specs.Orders.{Ordered}
use Rattle.plain_lemmas.specs.Lists.{Has}
use Rattle.level_walk.specs.Orders.{Precedes}
use Rattle.level_walk.specs.Spaces.{Space, AllWithin, ListsPoints, points, span, spread}
use Rattle.level_walk.proofs.SpreadLaws.{span-is, span-inside}
use Rattle.std.proofs.lemmas.List.{append-nil}
use Rattle.plain_lemmas.proofs.OrderLaws.{ordering_then-less, slice_cmp-append-same}
use Rattle.plain_lemmas.proofs.MembershipLaws.{has-left, has-right, has-cases}
use Rattle.orders.proofs.ListLaws.{ordered-append}

start : (first : ℤ) → first ≡ first +ℤ pos 0
start first = omega (arith, ints)

shift : (first : ℤ) (i : ℕ) → (first +ℤ pos 1) +ℤ pos i ≡ first +ℤ pos (suc i)
shift first i = omega (arith, ints)

module _ {X : Type 0} where
  pub spread-from : (n : ℕ) (first : ℤ) (f : ℤ → List X) (x : X) → Has (spread n first f) x → (i : ℕ) × (i < n) × Has (f (first +ℤ pos i)) x
  spread-from zero first f x h = absurd h
  spread-from (suc n) first f x h = ⊎_elim
      (λ k. (0, omega arith, subst (λ (v : ℤ). Has (f v) x) (start first) k))
      (λ k. let (i, below, has) = spread-from n (first +ℤ pos 1) f x k in (suc i, omega arith, subst (λ (v : ℤ). Has (f v) x) (shift first i) has))
      (has-cases (f first) (spread n (first +ℤ pos 1) f) x h)

  pub spread-to : (n : ℕ) (first : ℤ) (f : ℤ → List X) (x : X) (i : ℕ) → i < n → Has (f (first +ℤ pos i)) x → Has (spread n first f) x
  spread-to zero first f x i below h = absurd (omega arith)
  spread-to (suc n) first f x zero below h = has-left (f first) (spread n (first +ℤ pos 1) f) x (subst (λ (v : ℤ). Has (f v) x) (sym (start first)) h)
  spread-to (suc n) first f x (suc i) below h =
      has-right (f first) (spread n (first +ℤ pos 1) f) x (spread-to n (first +ℤ pos 1) f x i (omega arith) (subst (λ (v : ℤ). Has (f v) x) (sym (shift first i)) h))

  pub spread-ordered : (R : X → X → Type 0) (n : ℕ) (first : ℤ) (f : ℤ → List X) → ((v : ℤ) → Ordered R (f v)) → ((v w : ℤ) (x y : X) → v <ℤ w → Has (f v) x → Has (f w) y → R x y) → Ordered R (spread n first f)
  spread-ordered R zero first f each across = tt
  spread-ordered R (suc n) first f each across = ordered-append R (f first) (spread n (first +ℤ pos 1) f) (each first) (spread-ordered R n (first +ℤ pos 1) f each across)
      (λ x y h k. let (i, below, has) = spread-from n (first +ℤ pos 1) f y k in across first ((first +ℤ pos 1) +ℤ pos i) x y (omega (arith, ints)) h has)

-- lexicographic order

pub precedes-at : (outer : List ℤ) (v w : ℤ) (xs ys : List ℤ) → v <ℤ w → Precedes (outer ++ v ∷ xs) (outer ++ w ∷ ys)
precedes-at outer v w xs ys h = slice_cmp-append-same outer (v ∷ xs) (w ∷ ys) ∙ ordering_then-less v w (slice_cmp int_cmp xs ys) h

-- the points

pub record IsFrom (s : Space) (n : ℕ) (outer point : List ℤ) : Type 0 where
  pub rest : List ℤ
  pub is : point ≡ outer ++ rest
  pub long : length rest ≡ n
  pub within : AllWithin s rest
  pub accepted : s.accepts point ≡ true

pub points-from : (s : Space) (n : ℕ) (outer point : List ℤ) → Has (points s n outer) point → IsFrom s n outer point
unfolding points
points-from s zero outer point h = at (s.accepts outer) refl h
  where
    at : (b : Bool) → s.accepts outer ≡ b → Has (if b then outer ∷ [] else []) point → IsFrom s zero outer point
    at true e (inl is) = record { rest = []; is = is ∙ sym (append-nil outer); long = refl; within = tt; accepted = ap s.accepts is ∙ e }
    at true e (inr k) = absurd k
    at false e k = absurd k
points-from s (suc n) outer point h =
    let (i, below, has) = spread-from (span s.least s.greatest) s.least (λ value. points s n (outer ++ value ∷ [])) point h in
    let deeper = points-from s n (outer ++ (s.least +ℤ pos i) ∷ []) point has in
    let long = deeper.long in
    record {
      rest = (s.least +ℤ pos i) ∷ deeper.rest;
      is = deeper.is ∙ append_assoc outer ((s.least +ℤ pos i) ∷ []) deeper.rest;
      long = omega (arith, long);
      within = (record { least = omega (arith, ints); greatest = span-inside s.least s.greatest i below }, deeper.within);
      accepted = deeper.accepted;
    }

offset : (low value : ℤ) → low ≤ℤ value → (i : ℕ) × (low +ℤ pos i ≡ value)
offset low value h = at (value -ℤ low) refl
  where
    at : (z : ℤ) → value -ℤ low ≡ z → (i : ℕ) × (low +ℤ pos i ≡ value)
    at (pos i) e = (i, omega (arith, ints, e))
    at (negsuc i) e = absurd (omega (arith, ints, e, h))

pub points-to : (s : Space) (n : ℕ) (outer rest : List ℤ) → length rest ≡ n → AllWithin s rest → s.accepts (outer ++ rest) ≡ true → Has (points s n outer) (outer ++ rest)
unfolding points
points-to s zero outer [] long within taken =
    let same : outer ++ [] ≡ outer = append-nil outer in
    let here : s.accepts outer ≡ true = ap s.accepts (sym same) ∙ taken in
    rw here (inl same)
points-to s zero outer (v ∷ rest) long within taken = absurd (omega arith)
points-to s (suc n) outer [] long within taken = absurd (omega arith)
points-to s (suc n) outer (v ∷ rest) long within taken =
    let (i, is) = offset s.least v within.0.least in
    let front : (outer ++ v ∷ []) ++ rest ≡ outer ++ v ∷ rest = append_assoc outer (v ∷ []) rest in
    let deeper = points-to s n (outer ++ v ∷ []) rest (omega arith) within.1 (ap s.accepts front ∙ taken) in
    let size = span-is s.least s.greatest (bound v within.0.least within.0.greatest) in
    spread-to (span s.least s.greatest) s.least (λ value. points s n (outer ++ value ∷ [])) (outer ++ v ∷ rest) i
    (let top = within.0.greatest in omega (arith, ints, size, is, top))
    (subst (λ (w : ℤ). Has (points s n (outer ++ w ∷ [])) (outer ++ v ∷ rest)) (sym is) (subst (Has (points s n (outer ++ v ∷ []))) front deeper))
  where
    bound : (v : ℤ) → s.least ≤ℤ v → v ≤ℤ s.greatest → s.least ≤ℤ (s.greatest +ℤ pos 1)
    bound v a b = omega (arith, ints)

pub points-ordered : (s : Space) (n : ℕ) (outer : List ℤ) → Ordered Precedes (points s n outer)
unfolding points
points-ordered s zero outer = at (s.accepts outer)
  where
    at : (b : Bool) → Ordered Precedes (if b then outer ∷ [] else [])
    at true = (tt, tt)
    at false = tt
points-ordered s (suc n) outer = spread-ordered Precedes (span s.least s.greatest) s.least (λ value. points s n (outer ++ value ∷ []))
    (λ v. points-ordered s n (outer ++ v ∷ []))
    (λ v w x y l h k.
    let first = points-from s n (outer ++ v ∷ []) x h in
    let second = points-from s n (outer ++ w ∷ []) y k in
    let one : x ≡ outer ++ v ∷ first.rest = first.is ∙ append_assoc outer (v ∷ []) first.rest in
    let two : y ≡ outer ++ w ∷ second.rest = second.is ∙ append_assoc outer (w ∷ []) second.rest in
    subst (λ (p : List ℤ). Precedes p y) (sym one) (subst (Precedes (outer ++ v ∷ first.rest)) (sym two) (precedes-at outer v w first.rest second.rest l)))

pub lists-points : (s : Space) → ListsPoints s (points s s.levels [])
lists-points s = record {
  ordered = points-ordered s s.levels [];
  same = λ point. (
    λ h. let from = points-from s s.levels [] point h in record {
      long = ap length from.is ∙ from.long;
      within = subst (AllWithin s) (sym from.is) from.within;
      accepted = from.accepted;
    },
    λ is. points-to s s.levels [] point is.long is.within is.accepted,
  );
}
