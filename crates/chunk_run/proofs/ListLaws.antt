-- Lists whose elements a function tells apart.
use Rattle.std.proofs.Common.{◌≡◌, refl, sym, ap, subst, inl, inr, List, [], ◌∷◌, map}
use Rattle.std.specs.List.{AllByRecursion}
use Rattle.orders.specs.Orders.{Ordered, Before, Differ, SameElements}
use Rattle.plain_lemmas.specs.Lists.{Has}

module _ {X Y : Type 0} (f : X → Y) where
  pub has-map : (xs : List X) (x : X) → Has xs x → Has (map f xs) (f x)
  has-map [] x h = absurd h
  has-map (z ∷ zs) x (inl e) = inl (ap f e)
  has-map (z ∷ zs) x (inr h) = inr (has-map zs x h)

  pub has-unmap : (xs : List X) (y : Y) → Has (map f xs) y → (x : X) × Has xs x × (y ≡ f x)
  has-unmap [] y h = absurd h
  has-unmap (z ∷ zs) y (inl e) = (z, inl refl, e)
  has-unmap (z ∷ zs) y (inr h) = let rest = has-unmap zs y h in (rest.0, inr rest.1, rest.2)

  pub before-map : (xs : List X) (x y : X) → Before xs x y → Before (map f xs) (f x) (f y)
  before-map [] x y h = absurd h
  before-map (z ∷ zs) x y (inl h) = inl (ap f h.0, has-map zs y h.1)
  before-map (z ∷ zs) x y (inr h) = inr (before-map zs x y h)

  pub before-unmap : (xs : List X) (u v : Y) → Before (map f xs) u v → (x : X) × (y : X) × Before xs x y × (u ≡ f x) × (v ≡ f y)
  before-unmap [] u v h = absurd h
  before-unmap (z ∷ zs) u v (inl h) = let second = has-unmap zs v h.1 in (z, second.0, inl (refl, second.1), h.0, second.2)
  before-unmap (z ∷ zs) u v (inr h) = let rest = before-unmap zs u v h in (rest.0, rest.1, inr rest.2, rest.3, rest.4)

  pub before-first : (xs : List X) (x y : X) → Before xs x y → Has xs x
  before-first [] x y h = absurd h
  before-first (z ∷ zs) x y (inl h) = inl h.0
  before-first (z ∷ zs) x y (inr h) = inr (before-first zs x y h)

  pub before-second : (xs : List X) (x y : X) → Before xs x y → Has xs y
  before-second [] x y h = absurd h
  before-second (z ∷ zs) x y (inl h) = inr h.1
  before-second (z ∷ zs) x y (inr h) = inr (before-second zs x y h)

  pub same-map : (xs ys : List X) → SameElements xs ys → SameElements (map f xs) (map f ys)
  same-map xs ys same = record {
    there = λ y h. let found = has-unmap xs y h in subst (Has (map f ys)) (sym found.2) (has-map ys found.0 (same.there found.0 found.1));
    back = λ y h. let found = has-unmap ys y h in subst (Has (map f xs)) (sym found.2) (has-map xs found.0 (same.back found.0 found.1));
  }

  -- where the function tells the elements of a list apart, no two of their values are the same
  differs-from : (xs : List X) (z : X) → ((x : X) → Has xs x → f z ≡ f x → z ≡ x) → AllByRecursion (Differ z) xs → AllByRecursion (Differ (f z)) (map f xs)
  differs-from [] z apart h = tt
  differs-from (x ∷ xs) z apart h = (λ e. h.0 (apart x (inl refl) e), differs-from xs z (λ w k e. apart w (inr k) e) h.1)

  pub differ-map : (xs : List X) → ((x y : X) → Has xs x → Has xs y → f x ≡ f y → x ≡ y) → Ordered Differ xs → Ordered Differ (map f xs)
  differ-map [] apart h = tt
  differ-map (x ∷ xs) apart h = (differs-from xs x (λ w k e. apart x w (inl refl) (inr k) e) h.0, differ-map xs (λ u v k l e. apart u v (inr k) (inr l) e) h.1)
