-- Lists in the order of a key: there is one, groups in order make it, and so does a sort.
use Rattle.std.proofs.Common.{◌≡◌, ℤ, Bool, true, false, List, [], ◌∷◌, length, refl, sym, ap, ap₂, ◌∙◌, subst, inl, inr, ⊎_elim, ◌⊎◌, Ordering, Less, Equal, Greater, int_cmp, is_lt}
use Rattle.std.specs.Prelude.{if◌then◌else◌}
use Rattle.std.specs.List.{AllByRecursion, AllZip}
use Rattle.std.specs.Cmp.{IsTotalOrder}
use Rattle.std.specs.Ordering.{ordering_reverse}
use Rattle.std.specs.Cmp.Lexicographic.{slice_cmp}
use Rattle.std.proofs.lemmas.Cmp.{tied_itself, lists_total, int_cmp_total}
use Rattle.orders.specs.Runs.{Machine, Lawful, Conflict, follow}
use Rattle.orders.specs.Orders.{Ordered, SameElements, Precedes, Within, IsOrdering, Across, SortedLaw, put, sorted}
use Rattle.plain_lemmas.specs.Lists.{Has}
use Rattle.orders.specs.Tiles.{flat}
use Rattle.orders.proofs.SwapLaws.{apart-from-no-conflict}
use Rattle.orders.proofs.ListLaws.{ordered-append}
use Rattle.plain_lemmas.proofs.MembershipLaws.{all-has, all-from, has-left, has-right, has-cases}
use Rattle.orders.proofs.PermutationLaws.{reorder}

module _ {X K : Type 0} (cmp : K → K → Ordering) (total : IsTotalOrder cmp) (key : X → K) where
  pub never-itself : (x : X) → Precedes cmp key x x → ⊥
  never-itself x h = let e = tied_itself total (key x) in cc

  pub never-both : (x y : X) → Precedes cmp key x y → Precedes cmp key y x → ⊥
  never-both x y h k = never-itself x (total.trans (key x) (key y) (key x) h k)

module _ {X : Type 0} where
  -- one order of a list has one form
  pub ordering-unique : (R : X → X → Type 0) → ((x y : X) → R x y → R y x → ⊥) → (xs ys : List X) → Ordered R xs → Ordered R ys → SameElements xs ys → xs ≡ ys
  ordering-unique R asym [] [] first second same = refl
  ordering-unique R asym [] (y ∷ ys) first second same = absurd (same.back y (inl refl))
  ordering-unique R asym (x ∷ xs) [] first second same = absurd (same.there x (inl refl))
  ordering-unique R asym (x ∷ xs) (y ∷ ys) first second same =
      let heads = at-heads (same.there x (inl refl)) (same.back y (inl refl)) in
      ap₂ (λ z zs. z ∷ zs) heads (ordering-unique R asym xs ys first.1 second.1 (record {
        there = λ z h. tail-there heads z h (same.there z (inr h));
        back = λ z h. tail-back heads z h (same.back z (inr h));
      }))
    where
      at-heads : Has (y ∷ ys) x → Has (x ∷ xs) y → x ≡ y
      at-heads (inl e) k = e
      at-heads (inr h) (inl e) = sym e
      at-heads (inr h) (inr k) = absurd (asym x y (all-has (R x) xs y first.0 k) (all-has (R y) ys x second.0 h))

      tail-there : x ≡ y → (z : X) → Has xs z → Has (y ∷ ys) z → Has ys z
      tail-there heads z h (inr k) = k
      tail-there heads z h (inl e) =
          let at : R x x = subst (R x) (e ∙ sym heads) (all-has (R x) xs z first.0 h) in absurd (asym x x at at)

      tail-back : x ≡ y → (z : X) → Has ys z → Has (x ∷ xs) z → Has xs z
      tail-back heads z h (inr k) = k
      tail-back heads z h (inl e) =
          let at : R y y = subst (R y) (e ∙ heads) (all-has (R y) ys z second.0 h) in absurd (asym y y at at)

  pub has-flat : (xss : List (List X)) (x : X) → Has (flat xss) x → (xs : List X) × Has xss xs × Has xs x
  has-flat [] x h = absurd h
  has-flat (xs ∷ xss) x h = ⊎_elim (λ k. (xs, inl refl, k)) (λ k. let (ys, has, at) = has-flat xss x k in (ys, inr has, at)) (has-cases xs (flat xss) x h)

  pub flat-has : (xss : List (List X)) (xs : List X) (x : X) → Has xss xs → Has xs x → Has (flat xss) x
  flat-has [] xs x h k = absurd h
  flat-has (ys ∷ yss) xs x (inl e) k = has-left ys (flat yss) x (subst (λ l. Has l x) e k)
  flat-has (ys ∷ yss) xs x (inr h) k = has-right ys (flat yss) x (flat-has yss xs x h k)

  -- lists in order, each of which stands whole before the next ones
  pub ordered-flat : (R : X → X → Type 0) (xss : List (List X)) → AllByRecursion (Ordered R) xss → Ordered (Across R) xss → Ordered R (flat xss)
  ordered-flat R [] each across = tt
  ordered-flat R (xs ∷ xss) each across =
      ordered-append R xs (flat xss) each.0 (ordered-flat R xss each.1 across.1)
      (λ u v h k. let (ys, has, at) = has-flat xss v k in all-has (Across R xs) xss ys across.0 has u v h at)

module _ {X K : Type 0} (cmp : K → K → Ordering) (key : X → K) (R : X → X → Type 0) where
  -- the elements of a group have its key, and are in order

  abbrev pub IsGroup : K → List X → Type 0
  IsGroup k xs = AllByRecursion (λ x. key x ≡ k) xs × Ordered R xs

  group-ordered : (k : K) (xs : List X) → IsGroup k xs → Ordered (Within cmp key R) xs
  group-ordered k [] h = tt
  group-ordered k (x ∷ xs) h =
      (all-from _ xs (λ y has. inr (h.0.0 ∙ sym (all-has _ xs y h.0.1 has), all-has (R x) xs y h.1.0 has)), group-ordered k xs (h.0.1, h.1.1))

  -- groups whose keys rise, one after another, are in the order of the key and then of R
  pub groups-ordered : (ks : List K) (xss : List (List X)) → AllZip IsGroup ks xss → Ordered (λ k l. cmp k l ≡ Less) ks → Ordered (Within cmp key R) (flat xss)
  groups-ordered [] [] each rise = tt
  groups-ordered [] (xs ∷ xss) each rise = absurd each
  groups-ordered (k ∷ ks) [] each rise = absurd each
  groups-ordered (k ∷ ks) (xs ∷ xss) each rise =
      ordered-append (Within cmp key R) xs (flat xss) (group-ordered k xs each.0) (groups-ordered ks xss each.1 rise.1)
      (λ u v h w. inl (after ks xss each.1 rise.0 u v (all-has _ xs u each.0.0 h) w))
    where
      after : (ls : List K) (yss : List (List X)) → AllZip IsGroup ls yss → AllByRecursion (λ l. cmp k l ≡ Less) ls → (u v : X) → key u ≡ k → Has (flat yss) v → cmp (key u) (key v) ≡ Less
      after [] [] each above u v eu h = absurd h
      after [] (ys ∷ yss) each above u v eu h = absurd each
      after (l ∷ ls) [] each above u v eu h = absurd each
      after (l ∷ ls) (ys ∷ yss) each above u v eu h =
          ⊎_elim (λ at. ap₂ cmp eu (all-has _ ys v each.0.0 at) ∙ above.0) (λ at. after ls yss each.1 above.1 u v eu at) (has-cases ys (flat yss) v h)

module _ {X : Type 0} (s : Machine X) (lawful : Lawful s) where
  -- two keys of any kind
  pub two-keys : {K L : Type 0} (cmp : K → K → Ordering) (order : L → L → Ordering) (total : IsTotalOrder cmp) (total' : IsTotalOrder order) (first : X → K) (second : X → L) (xs ys : List X) (m : List ℤ) → length m ≡ s.size
      → Ordered (Precedes cmp first) xs → IsOrdering (Precedes order second) xs ys
      → ((x y : X) → Has xs x → Has xs y → Conflict s x y → Precedes cmp first x y → Precedes order second x y) → follow s xs m ≡ follow s ys m
  two-keys cmp order total total' first second xs ys m size rise is keeps =
      reorder s lawful (Precedes cmp first) (Precedes order second) (never-itself cmp total first) (never-itself order total' second) xs ys rise is.ordered is.same
      (λ x y h k b c. apart-from-no-conflict s x y (λ conflict. never-both order total' second x y (keeps x y h k conflict b) c)) m size

  pub sorted_law : SortedLaw s
  sorted_law first second = two-keys (slice_cmp int_cmp) (slice_cmp int_cmp) (lists_total int_cmp_total) (lists_total int_cmp_total) first second

-- a sort makes the one order
module _ {X : Type 0} (cmp : X → X → Ordering) (total : IsTotalOrder cmp) where
  abbrev Below : X → X → Type 0
  Below x y = cmp x y ≡ Less

  has-put : (x : X) (ys : List X) (z : X) → Has (put cmp x ys) z → (z ≡ x) ⊎ Has ys z
  has-put x [] z h = h
  has-put x (y ∷ ys) z h = at (is_lt (cmp y x)) h (has-put x ys z)
    where
      at : (b : Bool) → Has (if b then y ∷ put cmp x ys else x ∷ y ∷ ys) z → (Has (put cmp x ys) z → (z ≡ x) ⊎ Has ys z) → (z ≡ x) ⊎ Has (y ∷ ys) z
      at true (inl e) more = inr (inl e)
      at true (inr k) more = ⊎_elim (λ e. inl e) (λ i. inr (inr i)) (more k)
      at false k more = k

  put-has : (x : X) (ys : List X) (z : X) → (z ≡ x) ⊎ Has ys z → Has (put cmp x ys) z
  put-has x [] z h = h
  put-has x (y ∷ ys) z h = at (is_lt (cmp y x)) h (put-has x ys z)
    where
      at : (b : Bool) → (z ≡ x) ⊎ Has (y ∷ ys) z → ((z ≡ x) ⊎ Has ys z → Has (put cmp x ys) z) → Has (if b then y ∷ put cmp x ys else x ∷ y ∷ ys) z
      at true (inl e) more = inr (more (inl e))
      at true (inr (inl e)) more = inl e
      at true (inr (inr k)) more = inr (more (inr k))
      at false k more = k

  put-ordered : (x : X) (ys : List X) → AllByRecursion (λ y. cmp x y ≡ Equal → ⊥) ys → Ordered Below ys → Ordered Below (put cmp x ys)
  put-ordered x [] apart ord = (tt, tt)
  put-ordered x (y ∷ ys) apart ord = at (cmp y x) refl (put-ordered x ys apart.1 ord.1)
    where
      at : (o : Ordering) → cmp y x ≡ o → Ordered Below (put cmp x ys) → Ordered Below (if is_lt o then y ∷ put cmp x ys else x ∷ y ∷ ys)
      at Less e more = (all-from (Below y) (put cmp x ys) (λ z h. ⊎_elim (λ is. subst (Below y) (sym is) e) (λ k. all-has (Below y) ys z ord.0 k) (has-put x ys z h)), more)
      at Equal e more = absurd (apart.0 (total.antisymm x y ∙ ap ordering_reverse e))
      at Greater e more = let below : Below x y = total.antisymm x y ∙ ap ordering_reverse e in
          ((below, all-from (Below x) ys (λ z h. total.trans x y z below (all-has (Below y) ys z ord.0 h))), ord)

  same-sorted : (xs : List X) → SameElements xs (sorted cmp xs)
  same-sorted [] = record { there = λ x h. h; back = λ x h. h }
  same-sorted (x ∷ xs) = record {
    there = λ z h. put-has x (sorted cmp xs) z (⊎_elim (λ e. inl e) (λ k. inr ((same-sorted xs).there z k)) h);
    back = λ z h. ⊎_elim (λ e. inl e) (λ k. inr ((same-sorted xs).back z k)) (has-put x (sorted cmp xs) z h);
  }

  pub sorted-is-ordering : (xs : List X) → Ordered (λ x y. cmp x y ≡ Equal → ⊥) xs → IsOrdering Below xs (sorted cmp xs)
  sorted-is-ordering [] apart = record { ordered = tt; same = same-sorted [] }
  sorted-is-ordering (x ∷ xs) apart = record {
    ordered = put-ordered x (sorted cmp xs) (all-from _ (sorted cmp xs) (λ y h. all-has _ xs y apart.0 ((same-sorted xs).back y h))) (sorted-is-ordering xs apart.1).ordered;
    same = same-sorted (x ∷ xs);
  }

  -- so what is in order is what the sort makes
  pub ordering-is-sorted : (xs ys : List X) → Ordered (λ x y. cmp x y ≡ Equal → ⊥) xs → IsOrdering Below xs ys → ys ≡ sorted cmp xs
  ordering-is-sorted xs ys apart is =
      let other = sorted-is-ordering xs apart in
      ordering-unique Below (λ x y h k. let e = tied_itself total x in let l = total.trans x y x h k in cc) ys (sorted cmp xs) is.ordered other.ordered (record {
        there = λ z h. other.same.there z (is.same.back z h);
        back = λ z h. is.same.there z (other.same.back z h);
      })
