-- Lists of what is said of each number of a range.
use Rattle.std.proofs.Common.{◌≡◌, refl, sym, ap, ap₂, ℕ, zero, suc, ◌<◌, ◌≤◌, ◌+◌, ◌⊎◌, inl, inr, ⊎_elim, List, [], ◌∷◌, ◌++◌, map, take, drop, length, get_or, arith}
use Rattle.std.specs.List.{AllByRecursion, range_with_len, flat_map}
use Rattle.plain_lemmas.specs.Lists.{Has}

module _ {X : Type 0} where
  pub all-append : (P : X → Type 0) (xs ys : List X) → AllByRecursion P xs → AllByRecursion P ys → AllByRecursion P (xs ++ ys)
  all-append P [] ys h k = k
  all-append P (x ∷ xs) ys h k = (h.0, all-append P xs ys h.1 k)

  pub all-range : (P : X → Type 0) (f : ℕ → List X) (a n : ℕ) → ((k : ℕ) → a ≤ k → k < a + n → AllByRecursion P (f k)) → AllByRecursion P (flat_map f (range_with_len a n))
  all-range P f a zero h = tt
  all-range P f a (suc n) h = all-append P (f a) (flat_map f (range_with_len (a + 1) n)) (h a (omega arith) (omega arith)) (all-range P f (a + 1) n (λ k l m. h k (omega arith) (omega arith)))

  pub has-drop : (xs : List X) (n : ℕ) (x : X) → Has (drop n xs) x → (k : ℕ) × (n ≤ k) × (k < length xs) × ((d : X) → get_or xs k d ≡ x)
  has-drop [] zero x h = absurd h
  has-drop [] (suc n) x h = absurd h
  has-drop (y ∷ ys) zero x (inl e) = (zero, omega arith, omega arith, λ d. sym e)
  has-drop (y ∷ ys) zero x (inr h) = let (k, l, m, e) = has-drop ys zero x h in (suc k, omega arith, omega arith, e)
  has-drop (y ∷ ys) (suc n) x h = let (k, l, m, e) = has-drop ys n x h in (suc k, omega arith, omega arith, e)

  pub has-take : (xs : List X) (n : ℕ) (x : X) → Has (take n xs) x → (k : ℕ) × (k < n) × (k < length xs) × ((d : X) → get_or xs k d ≡ x)
  has-take [] zero x h = absurd h
  has-take [] (suc n) x h = absurd h
  has-take (y ∷ ys) zero x h = absurd h
  has-take (y ∷ ys) (suc n) x (inl e) = (zero, omega arith, omega arith, λ d. sym e)
  has-take (y ∷ ys) (suc n) x (inr h) = let (k, l, m, e) = has-take ys n x h in (suc k, omega arith, omega arith, e)

  pub any-default : (xs : List X) (k : ℕ) (d e : X) → k < length xs → get_or xs k d ≡ get_or xs k e
  any-default [] k d e l = absurd (omega arith)
  any-default (x ∷ xs) zero d e l = refl
  any-default (x ∷ xs) (suc k) d e l = any-default xs k d e (omega arith)

module _ {X Y : Type 0} where
  pub all-flat-map : (P : Y → Type 0) (f : X → List Y) (xs : List X) → AllByRecursion (λ x. AllByRecursion P (f x)) xs → AllByRecursion P (flat_map f xs)
  all-flat-map P f [] h = tt
  all-flat-map P f (x ∷ xs) h = all-append P (f x) (flat_map f xs) h.0 (all-flat-map P f xs h.1)

eq-or-lt : (x y : ℕ) → x ≤ y → (y ≡ x) ⊎ (x + 1 ≤ y)
eq-or-lt zero zero h = inl refl
eq-or-lt zero (suc y) h = inr (omega arith)
eq-or-lt (suc x) zero h = absurd (omega arith)
eq-or-lt (suc x) (suc y) h = ⊎_elim (λ e. inl (ap suc e)) (λ more. inr (omega arith)) (eq-or-lt x y (omega arith))

pub has-range : (a n k : ℕ) → a ≤ k → k < a + n → Has (range_with_len a n) k
has-range a zero k l m = absurd (omega arith)
has-range a (suc n) k l m = ⊎_elim (λ e. inl e) (λ more. inr (has-range (a + 1) n k more (omega arith))) (eq-or-lt a k l)

-- forms of the numbers of a range, each at a point
pub map-range : {X Y Z : Type 0} (f : X → Z) (g : Y → Z) (F : ℕ → X) (G : ℕ → Y) (a n : ℕ) → ((k : ℕ) → a ≤ k → k < a + n → f (F k) ≡ g (G k)) → map f (map F (range_with_len a n)) ≡ map g (map G (range_with_len a n))
map-range f g F G a zero h = refl
map-range {Z = Z} f g F G a (suc n) h = ap₂ (λ (z : Z) (zs : List Z). z ∷ zs) (h a (omega arith) (omega arith)) (map-range f g F G (a + 1) n (λ k l m. h k (omega arith) (omega arith)))

pub map-same : {X : Type 0} (xs : List X) → map (λ x. x) xs ≡ xs
map-same [] = refl
map-same {X} (x ∷ xs) = ap (λ (ys : List X). x ∷ ys) (map-same xs)
