-- The elements of a list: which they are, and what a filter, a map and a test say of them.
use Rattle.std.proofs.Common.{◌≡◌, ℕ, zero, suc, ◌<◌, Bool, true, false, ◌||◌, List, [], ◌∷◌, ◌++◌, map, filter, length, get_or, refl, sym, ap, ◌∙◌, subst, inl, inr, ⊎_elim, ◌⊎◌, arith}
use Rattle.std.specs.List.{All, Any, AllByRecursion, Contains, flat_map, list_all, list_any}
use Rattle.std.proofs.lemmas.Bool.{and_parts, or_parts}
use Rattle.std.proofs.lemmas.List.Elements.{Contains-get_or}
use Rattle.plain_lemmas.specs.Lists.{Has}

module _ {X : Type 0} where
  pub all-has : (P : X → Type 0) (xs : List X) (x : X) → AllByRecursion P xs → Has xs x → P x
  all-has P [] x all h = absurd h
  all-has P (y ∷ ys) x all (inl e) = subst P (sym e) all.0
  all-has P (y ∷ ys) x all (inr h) = all-has P ys x all.1 h

  pub all-from : (P : X → Type 0) (xs : List X) → ((x : X) → Has xs x → P x) → AllByRecursion P xs
  all-from P [] h = tt
  all-from P (x ∷ xs) h = (h x (inl refl), all-from P xs (λ y k. h y (inr k)))

  pub has-left : (us vs : List X) (x : X) → Has us x → Has (us ++ vs) x
  has-left [] vs x h = absurd h
  has-left (u ∷ us) vs x (inl e) = inl e
  has-left (u ∷ us) vs x (inr h) = inr (has-left us vs x h)

  pub has-right : (us vs : List X) (x : X) → Has vs x → Has (us ++ vs) x
  has-right [] vs x h = h
  has-right (u ∷ us) vs x h = inr (has-right us vs x h)

  pub has-cases : (us vs : List X) (x : X) → Has (us ++ vs) x → Has us x ⊎ Has vs x
  has-cases [] vs x h = inr h
  has-cases (u ∷ us) vs x (inl e) = inl (inl e)
  has-cases (u ∷ us) vs x (inr h) = ⊎_elim (λ k. inl (inr k)) (λ k. inr k) (has-cases us vs x h)

  pub contains-from-has : (xs : List X) (x : X) → Has xs x → Contains xs x
  contains-from-has [] x h = absurd h
  contains-from-has (y ∷ ys) x (inl e) = (zero, omega arith, sym e)
  contains-from-has (y ∷ ys) x (inr h) = let (k, l, is) = contains-from-has ys x h in (suc k, omega arith, is)

  pub has-at : (xs : List X) (k : ℕ) (x : X) → k < length xs → get_or xs k x ≡ x → Has xs x
  has-at [] k x l is = absurd (omega arith)
  has-at (z ∷ zs) zero x l is = inl (sym is)
  has-at (z ∷ zs) (suc k) x l is = inr (has-at zs k x (omega arith) is)

  pub has-from-contains : (xs : List X) (x : X) → Contains xs x → Has xs x
  has-from-contains xs x c = has-at xs c.0 x c.1 c.2

  pub has-get_or : (xs : List X) (k : ℕ) (d : X) → k < length xs → Has xs (get_or xs k d)
  has-get_or xs k d l = has-from-contains xs (get_or xs k d) (Contains-get_or xs k d l)

  -- `All`, by the elements
  pub All-has : (P : X → Type 0) (xs : List X) (x : X) → All P xs → Has xs x → P x
  All-has P xs x all h = let (k, l, is) = contains-from-has xs x h in subst P is (all k x l)

  pub All-from : (P : X → Type 0) (xs : List X) → ((x : X) → Has xs x → P x) → All P xs
  All-from P xs h k d l = h (get_or xs k d) (has-get_or xs k d l)

  pub has-from-any : (P : X → Type 0) (xs : List X) → Any P xs → (x : X) × Has xs x × P x
  has-from-any P xs (k, x, l, is, p) = (x, has-at xs k x l is, p)

  pub any-from-has : (P : X → Type 0) (xs : List X) (x : X) → Has xs x → P x → Any P xs
  any-from-has P xs x h p = let (k, l, is) = contains-from-has xs x h in (k, x, l, is, p)

  -- a filter
  pub has-filter : (p : X → Bool) (xs : List X) (x : X) → Has xs x → p x ≡ true → Has (filter p xs) x
  has-filter p [] x h is = absurd h
  has-filter p (y ∷ ys) x h is = at (p y) refl h (λ k. has-filter p ys x k is)
    where
      at : (b : Bool) → p y ≡ b → Has (y ∷ ys) x → (Has ys x → Has (filter p ys) x) → Has (filter p (y ∷ ys)) x
      at true e (inl same) more = rw e (inl same)
      at true e (inr k) more = rw e (inr (more k))
      at false e (inl same) more = absurd (let f = ap p same in cc)
      at false e (inr k) more = rw e (more k)

  pub filter-has : (p : X → Bool) (xs : List X) (x : X) → Has (filter p xs) x → Has xs x × (p x ≡ true)
  filter-has p [] x h = absurd h
  filter-has p (y ∷ ys) x h = at (p y) refl h (λ k. filter-has p ys x k)
    where
      at : (b : Bool) → p y ≡ b → Has (filter p (y ∷ ys)) x → (Has (filter p ys) x → Has ys x × (p x ≡ true)) → Has (y ∷ ys) x × (p x ≡ true)
      at true e k more = ⊎_elim (λ same. (inl same, ap p same ∙ e)) (λ m. let r = more m in (inr r.0, r.1)) (rw e at k)
      at false e k more = let r = more (rw e at k) in (inr r.0, r.1)

  -- a test of all, and of some
  pub list_all-has : (p : X → Bool) (xs : List X) → list_all p xs ≡ true → (x : X) → Has xs x → p x ≡ true
  list_all-has p [] all x h = absurd h
  list_all-has p (y ∷ ys) all x (inl e) = rw e (and_parts (p y) (list_all p ys) all).0
  list_all-has p (y ∷ ys) all x (inr h) = list_all-has p ys (and_parts (p y) (list_all p ys) all).1 x h

  pub list_all-from : (p : X → Bool) (xs : List X) → ((x : X) → Has xs x → p x ≡ true) → list_all p xs ≡ true
  list_all-from p [] h = refl
  list_all-from p (y ∷ ys) h = rw (h y (inl refl)) (list_all-from p ys (λ x k. h x (inr k)))

  pub list_any-none : (p : X → Bool) (xs : List X) → list_any p xs ≡ false → (x : X) → Has xs x → p x ≡ false
  list_any-none p [] none x h = absurd h
  list_any-none p (y ∷ ys) none x (inl e) = rw e (or_parts (p y) (list_any p ys) none).0
  list_any-none p (y ∷ ys) none x (inr h) = list_any-none p ys (or_parts (p y) (list_any p ys) none).1 x h

  pub list_any-has : (p : X → Bool) (xs : List X) → list_any p xs ≡ true → (x : X) × Has xs x × (p x ≡ true)
  list_any-has p [] some = cc
  list_any-has p (y ∷ ys) some = at (p y) refl some (λ h. list_any-has p ys h)
    where
      at : (b : Bool) → p y ≡ b → (b || list_any p ys) ≡ true → (list_any p ys ≡ true → (x : X) × Has ys x × (p x ≡ true)) → (x : X) × Has (y ∷ ys) x × (p x ≡ true)
      at true e h more = (y, inl refl, e)
      at false e h more = let (x, k, is) = more h in (x, inr k, is)

module _ {X Y : Type 0} where
  pub has-map : (f : X → Y) (xs : List X) (x : X) → Has xs x → Has (map f xs) (f x)
  has-map f [] x h = absurd h
  has-map f (y ∷ ys) x (inl e) = inl (ap f e)
  has-map f (y ∷ ys) x (inr h) = inr (has-map f ys x h)

  pub map-has : (f : X → Y) (xs : List X) (z : Y) → Has (map f xs) z → (x : X) × Has xs x × (z ≡ f x)
  map-has f [] z h = absurd h
  map-has f (y ∷ ys) z (inl e) = (y, inl refl, e)
  map-has f (y ∷ ys) z (inr h) = let (x, k, is) = map-has f ys z h in (x, inr k, is)

  pub has-flat_map : (f : X → List Y) (xs : List X) (x : X) (z : Y) → Has xs x → Has (f x) z → Has (flat_map f xs) z
  has-flat_map f [] x z h k = absurd h
  has-flat_map f (y ∷ ys) x z (inl e) k = has-left (f y) (flat_map f ys) z (subst (λ v. Has (f v) z) e k)
  has-flat_map f (y ∷ ys) x z (inr h) k = has-right (f y) (flat_map f ys) z (has-flat_map f ys x z h k)

  pub flat_map-has : (f : X → List Y) (xs : List X) (z : Y) → Has (flat_map f xs) z → (x : X) × Has xs x × Has (f x) z
  flat_map-has f [] z h = absurd h
  flat_map-has f (y ∷ ys) z h =
      ⊎_elim (λ k. (y, inl refl, k)) (λ k. let (x, m, is) = flat_map-has f ys z k in (x, inr m, is)) (has-cases (f y) (flat_map f ys) z h)
