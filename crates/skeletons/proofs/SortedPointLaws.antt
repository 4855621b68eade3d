-- A list of points that is sorted, and in which equal neighbours are dropped.
use Rattle.std.proofs.Common.{◌≡◌, ◌∙◌, refl, sym, ap, subst, ℕ, ℤ, List, [], ◌∷◌, length, inl, inr, Bool, true, Ordering, Less, Equal, Greater, int_cmp, IsPermutation, false}
use Rattle.std.specs.Prelude.{◌↔◌}
use Rattle.std.specs.Cmp.{IsTotalOrder}
use Rattle.std.specs.Cmp.Lexicographic.{slice_cmp}
use Rattle.std.specs.List.{AllByRecursion, dedup}
use Rattle.std.specs.List.Sorted.{IsSorted}
use Rattle.std.specs.Ordering.{eq_by_cmp, is_eq}
use Rattle.std.proofs.lemmas.Cmp.{int_cmp_total, lists_total, on_total}
use Rattle.std.proofs.lemmas.List.Kept.{Contains-dedup, Contains-from_dedup, IsStrictlySortedBy-dedup}
use Rattle.std.proofs.lemmas.List.Sorted.{Contains-permutation, IsPermutation-sym}
use Rattle.plain_lemmas.proofs.OrderLaws.{slice_cmp-exact}
use Rattle.arrayvec.specs.ArrayVec.{ArrayVec}
use Rattle.orders.specs.Orders.{Ordered}
use Rattle.plain_lemmas.specs.Lists.{Has}
use Rattle.plain_lemmas.proofs.MembershipLaws.{contains-from-has, has-from-contains, has-map, map-has}
use Rattle.level_walk.specs.Orders.{Precedes}
use Rattle.skeletons.specs.PlaceLists.{numbers}
use Rattle.skeletons.proofs.CellListLaws.{equivalence-of, ordered-sorted}
use Rattle.skeletons.proofs.ListLaws.{ordered-map}

-- points compare as their numbers do
abbrev pub point_cmp : ArrayVec ℤ → ArrayVec ℤ → Ordering
point_cmp p q = slice_cmp int_cmp p.items q.items

point-total : IsTotalOrder point_cmp
point-total = on_total (λ (p : ArrayVec ℤ). p.items) (lists_total int_cmp_total)

equal-is : (o : Ordering) → is_eq o ≡ true → o ≡ Equal
equal-is Less h = absurd (let w : false ≡ true = h in cc)
equal-is Equal h = refl
equal-is Greater h = absurd (let w : false ≡ true = h in cc)

point-exact : (p q : ArrayVec ℤ) → point_cmp p q ≡ Equal → p ≡ q
point-exact p q h = at p.items q.items (slice_cmp-exact p.items q.items h)
  where
    point-of : List ℤ → ArrayVec ℤ
    point-of xs = record { items = xs }

    at : (xs ys : List ℤ) → xs ≡ ys → point-of xs ≡ point-of ys
    at xs ys e = ap point-of e

module _ (same : ArrayVec ℤ → ArrayVec ℤ → Bool) (ties : (p q : ArrayVec ℤ) → same p q ≡ eq_by_cmp point_cmp p q) where
  pub dedup-ordered : (ps : List (ArrayVec ℤ)) → IsSorted point_cmp ps → Ordered Precedes (numbers (dedup same ps))
  dedup-ordered ps sorted = ordered-map (λ (p : ArrayVec ℤ). p.items) (λ p q. point_cmp p q ≡ Less) Precedes (dedup same ps) (λ p q k l h. h)
      (ordered-sorted point_cmp (dedup same ps) (IsStrictlySortedBy-dedup point-total ties ps sorted))

  pub dedup-has : (ps qs : List (ArrayVec ℤ)) → IsPermutation ps qs → (z : List ℤ) → Has (numbers (dedup same qs)) z ↔ Has (numbers ps) z
  dedup-has ps qs moved z = (
    moves (dedup same qs) ps (λ p h. has-from-contains ps p (Contains-permutation qs ps p (IsPermutation-sym ps qs moved) (Contains-from_dedup same qs p (contains-from-has (dedup same qs) p h)))),
    moves ps (dedup same qs) (λ p h. has-from-contains (dedup same qs) p (Contains-dedup (equivalence-of same point_cmp point-total ties) (λ x y e. point-exact x y (equal-is (point_cmp x y) (sym (ties x y) ∙ e))) qs p
        (Contains-permutation ps qs p moved (contains-from-has ps p h)))),
  )
    where
      moves : (xs ys : List (ArrayVec ℤ)) → ((p : ArrayVec ℤ) → Has xs p → Has ys p) → Has (numbers xs) z → Has (numbers ys) z
      moves xs ys f h = let (p, there, e) = map-has (λ (p : ArrayVec ℤ). p.items) xs z h in subst (Has (numbers ys)) (sym e) (has-map (λ (p : ArrayVec ℤ). p.items) ys p (f p there))

pub as-long : (n : ℕ) (ps : List (ArrayVec ℤ)) → ((z : List ℤ) → Has (numbers ps) z → length z ≡ n) → AllByRecursion (λ (p : ArrayVec ℤ). length p.items ≡ n) ps
as-long n [] h = tt
as-long n (p ∷ ps) h = (h p.items (inl refl), as-long n ps (λ z m. h z (inr m)))
