-- Lists in order, and lists with the same elements.
use Rattle.std.proofs.Common.{◌≡◌, suc, zero, List, [], ◌∷◌, ◌++◌, refl, sym, ap, subst, arith, inl, inr, ⊎_elim, IsPermutation}
use Rattle.std.specs.List.{Contains, AllPairs}
use Rattle.std.proofs.lemmas.List.Elements.{Contains-get_or}
use Rattle.std.proofs.lemmas.List.Sorted.{Contains-permutation, IsPermutation-sym}
use Rattle.orders.specs.Orders.{Ordered, SameElements, Differ, Before}
use Rattle.plain_lemmas.specs.Lists.{Has}
use Rattle.plain_lemmas.proofs.MembershipLaws.{all-has, all-from, has-left, has-right, has-cases, contains-from-has, has-from-contains}

module _ {X : Type 0} where
  pub has-split : (xs : List X) (x : X) → Has xs x → (us : List X) × (vs : List X) × (xs ≡ us ++ x ∷ vs)
  has-split [] x h = absurd h
  has-split (y ∷ ys) x (inl e) = ([], ys, ap (λ z. z ∷ ys) (sym e))
  has-split (y ∷ ys) x (inr h) = let (us, vs, is) = has-split ys x h in (y ∷ us, vs, ap (λ l. y ∷ l) is)

  -- x left out
  pub has-without : (us vs : List X) (x z : X) → Has (us ++ vs) z → Has (us ++ x ∷ vs) z
  has-without us vs x z h = ⊎_elim (λ k. has-left us (x ∷ vs) z k) (λ k. has-right us (x ∷ vs) z (inr k)) (has-cases us vs z h)

  pub ordered-weaker : (R S : X → X → Type 0) → ((x y : X) → R x y → S x y) → (xs : List X) → Ordered R xs → Ordered S xs
  ordered-weaker R S weaker [] ord = tt
  ordered-weaker R S weaker (x ∷ xs) ord = (all-from (S x) xs (λ y h. weaker x y (all-has (R x) xs y ord.0 h)), ordered-weaker R S weaker xs ord.1)

  pub ordered-without : (R : X → X → Type 0) (us vs : List X) (x : X) → Ordered R (us ++ x ∷ vs) → Ordered R (us ++ vs)
  ordered-without R [] vs x ord = ord.1
  ordered-without R (u ∷ us) vs x ord =
      (all-from (R u) (us ++ vs) (λ z h. all-has (R u) (us ++ x ∷ vs) z ord.0 (has-without us vs x z h)), ordered-without R us vs x ord.1)

  -- what stands on the left comes first
  pub ordered-across : (R : X → X → Type 0) (us vs : List X) (u v : X) → Ordered R (us ++ vs) → Has us u → Has vs v → R u v
  ordered-across R [] vs u v ord h k = absurd h
  ordered-across R (w ∷ us) vs u v ord (inl e) k = subst (λ z. R z v) (sym e) (all-has (R w) (us ++ vs) v ord.0 (has-right us vs v k))
  ordered-across R (w ∷ us) vs u v ord (inr h) k = ordered-across R us vs u v ord.1 h k

  pub ordered-right : (R : X → X → Type 0) (us vs : List X) → Ordered R (us ++ vs) → Ordered R vs
  ordered-right R [] vs ord = ord
  ordered-right R (u ∷ us) vs ord = ordered-right R us vs ord.1

  pub ordered-append : (R : X → X → Type 0) (us vs : List X) → Ordered R us → Ordered R vs → ((u v : X) → Has us u → Has vs v → R u v) → Ordered R (us ++ vs)
  ordered-append R [] vs left right across = right
  ordered-append R (u ∷ us) vs left right across = (
    all-from (R u) (us ++ vs) (λ z h. ⊎_elim (λ k. all-has (R u) us z left.0 k) (λ k. across u z (inl refl) k) (has-cases us vs z h)),
    ordered-append R us vs left.1 right (λ a b h k. across a b (inr h) k),
  )

  -- before, in a list
  pub before-is : (R : X → X → Type 0) (xs : List X) (x y : X) → Ordered R xs → Before xs x y → R x y
  before-is R [] x y ord h = absurd h
  before-is R (z ∷ zs) x y ord (inl h) = subst (λ v. R v y) (sym h.0) (all-has (R z) zs y ord.0 h.1)
  before-is R (z ∷ zs) x y ord (inr h) = before-is R zs x y ord.1 h

  pub ordered-before : (xs : List X) → Ordered (Before xs) xs
  ordered-before [] = tt
  ordered-before (x ∷ xs) = (all-from (Before (x ∷ xs) x) xs (λ y h. inl (refl, h)), ordered-weaker (Before xs) (Before (x ∷ xs)) (λ a b h. inr h) xs (ordered-before xs))

  before-first : (xs : List X) (x y : X) → Before xs x y → Has xs x
  before-first [] x y h = absurd h
  before-first (z ∷ zs) x y (inl h) = inl h.0
  before-first (z ∷ zs) x y (inr h) = inr (before-first zs x y h)

  before-second : (xs : List X) (x y : X) → Before xs x y → Has xs y
  before-second [] x y h = absurd h
  before-second (z ∷ zs) x y (inl h) = inr h.1
  before-second (z ∷ zs) x y (inr h) = inr (before-second zs x y h)

  pub before-asym : (xs : List X) (x y : X) → Ordered Differ xs → Before xs x y → Before xs y x → ⊥
  before-asym [] x y ord h k = absurd h
  before-asym (z ∷ zs) x y ord (inl h) (inl k) = all-has (Differ z) zs y ord.0 h.1 (sym k.0)
  before-asym (z ∷ zs) x y ord (inl h) (inr k) = all-has (Differ z) zs x ord.0 (before-second zs y x k) (sym h.0)
  before-asym (z ∷ zs) x y ord (inr h) (inl k) = all-has (Differ z) zs y ord.0 (before-second zs x y h) (sym k.0)
  before-asym (z ∷ zs) x y ord (inr h) (inr k) = before-asym zs x y ord.1 h k

  pub same-from-permutation : (xs ys : List X) → IsPermutation xs ys → SameElements xs ys
  same-from-permutation xs ys p = record {
    there = λ x h. has-from-contains ys x (Contains-permutation xs ys x p (contains-from-has xs x h));
    back = λ x h. has-from-contains xs x (Contains-permutation ys xs x (IsPermutation-sym xs ys p) (contains-from-has ys x h));
  }

  pub ordered-from-pairs : (R : X → X → Type 0) (xs : List X) → AllPairs R xs → Ordered R xs
  ordered-from-pairs R [] h = tt
  ordered-from-pairs R (x ∷ xs) h =
      (all-from (R x) xs (λ y k. first y (contains-from-has xs y k)), ordered-from-pairs R xs (λ i j d l m. h (suc i) (suc j) d (omega arith) (omega arith)))
    where
      first : (y : X) → Contains xs y → R x y
      first y (k, l, is) = subst (R x) is (h zero (suc k) y (omega arith) (omega arith))

  pub pairs-from-ordered : (R : X → X → Type 0) (xs : List X) → Ordered R xs → AllPairs R xs
  pairs-from-ordered R [] ord i j d l m = absurd (omega arith)
  pairs-from-ordered R (x ∷ xs) ord zero zero d l m = absurd (omega arith)
  pairs-from-ordered R (x ∷ xs) ord zero (suc j) d l m = all-has (R x) xs _ ord.0 (has-from-contains xs _ (Contains-get_or xs j d (omega arith)))
  pairs-from-ordered R (x ∷ xs) ord (suc i) zero d l m = absurd (omega arith)
  pairs-from-ordered R (x ∷ xs) ord (suc i) (suc j) d l m = pairs-from-ordered R xs ord.1 i j d (omega arith) (omega arith)
