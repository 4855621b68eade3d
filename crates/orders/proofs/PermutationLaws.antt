-- A list that is run in another order, which keeps the order of what conflicts.
use Rattle.std.proofs.Common.{◌≡◌, ℤ, List, [], ◌∷◌, ◌++◌, length, refl, sym, ◌∙◌, subst, inl, inr, ◌⊎◌}
use Rattle.std.specs.List.{AllByRecursion}
use Rattle.orders.specs.Runs.{Machine, Lawful, Apart, follow}
use Rattle.orders.specs.Orders.{Ordered, SameElements, Differ, Before, PermutationLaw}
use Rattle.plain_lemmas.specs.Lists.{Has}
use Rattle.orders.proofs.SwapLaws.{swap-two, then-same, apart-from-no-conflict}
use Rattle.orders.proofs.ListLaws.{has-split, has-without, ordered-without, ordered-across, ordered-right, before-is, ordered-before, before-asym}
use Rattle.plain_lemmas.proofs.MembershipLaws.{all-has, all-from, has-left, has-right, has-cases}

module _ {X : Type 0} (s : Machine X) (lawful : Lawful s) where
  -- x may come before all that it is apart from
  pub to-front : (us vs : List X) (x : X) (m : List ℤ) → length m ≡ s.size → AllByRecursion (Apart s x) us → follow s (x ∷ (us ++ vs)) m ≡ follow s (us ++ x ∷ vs) m
  to-front [] vs x m size apart = refl
  to-front (u ∷ us) vs x m size apart =
      swap-two s lawful x u m (follow s (us ++ vs)) size apart.0 ∙ then-same (s.run u m) _ _ (λ r e. to-front us vs x r.memory (lawful.long u m r size e) apart.1)

  module _ (R S : X → X → Type 0) (never : (x : X) → R x x → ⊥) (never' : (x : X) → S x x → ⊥) where
    rest-same : (x : X) (xs us vs : List X) → Ordered R (x ∷ xs) → Ordered S (us ++ x ∷ vs) → SameElements (x ∷ xs) (us ++ x ∷ vs) → SameElements xs (us ++ vs)
    rest-same x xs us vs first second same = record {
      there = λ z h. out z h (has-cases us (x ∷ vs) z (same.there z (inr h)));
      back = λ z h. into z (has-cases us vs z h) (same.back z (has-without us vs x z h));
    }
      where
        out : (z : X) → Has xs z → Has us z ⊎ Has (x ∷ vs) z → Has (us ++ vs) z
        out z h (inl k) = has-left us vs z k
        out z h (inr (inl e)) = absurd (never x (subst (R x) e (all-has (R x) xs z first.0 h)))
        out z h (inr (inr k)) = has-right us vs z k

        into : (z : X) → Has us z ⊎ Has vs z → Has (x ∷ xs) z → Has xs z
        into z k (inr h) = h
        into z (inl k) (inl e) = absurd (never' x (subst (λ v. S v x) e (ordered-across S us (x ∷ vs) z x second k (inl refl))))
        into z (inr k) (inl e) = absurd (never' x (subst (S x) e (all-has (S x) vs z (ordered-right S us (x ∷ vs) second).0 k)))

    -- two orders of the same elements, where each pair that changes its order is apart
    pub reorder : (xs ys : List X) → Ordered R xs → Ordered S ys → SameElements xs ys → ((x y : X) → Has xs x → Has xs y → R x y → S y x → Apart s x y)
        → (m : List ℤ) → length m ≡ s.size → follow s xs m ≡ follow s ys m
    reorder [] [] first second same apart m size = refl
    reorder [] (y ∷ ys) first second same apart m size = absurd (same.back y (inl refl))
    reorder (x ∷ xs) ys first second same apart m size =
        let (us, vs, is) = has-split ys x (same.there x (inl refl)) in
        let second' = subst (Ordered S) is second in
        let same' = subst (SameElements (x ∷ xs)) is same in
        let rest = rest-same x xs us vs first second' same' in
        let front = to-front us vs x m size (all-from (Apart s x) us (λ z h.
        let k = rest.back z (has-left us vs z h) in
        apart x z (inl refl) (inr k) (all-has (R x) xs z first.0 k) (ordered-across S us (x ∷ vs) z x second' h (inl refl)))) in
        let more = then-same (s.run x m) (follow s xs) (follow s (us ++ vs)) (λ r e.
        reorder xs (us ++ vs) first.1 (ordered-without S us vs x second') rest (λ a b h k. apart a b (inr h) (inr k)) r.memory (lawful.long x m r size e)) in
        subst (λ l. follow s (x ∷ xs) m ≡ follow s l m) (sym is) (more ∙ front)

  pub permutation_law : PermutationLaw s
  permutation_law xs ys m size once once' same keeps =
      reorder (Before xs) (Before ys) (λ x h. before-is Differ xs x x once h refl) (λ x h. before-is Differ ys x x once' h refl) xs ys (ordered-before xs) (ordered-before ys) same
      (λ x y h k b c. apart-from-no-conflict s x y (λ conflict. before-asym ys x y once' (keeps x y conflict b) c)) m size
