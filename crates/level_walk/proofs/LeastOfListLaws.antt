-- The least of what is left of a list.
use Rattle.std.proofs.Common.{◌≡◌, ℤ, Bool, true, false, List, [], ◌∷◌, refl, sym, ap, ap₂, ◌∙◌, subst, inl, inr, ⊎_elim, Ordering, Less, Equal, Greater, int_cmp, is_lt}
use Rattle.std.specs.Prelude.{if◌then◌else◌, ◌⊎◌, Option, Some, None}
use Rattle.std.specs.List.{AllByRecursion}
use Rattle.std.specs.Ordering.{ordering_reverse}
use Rattle.std.specs.Cmp.{IsTotalOrder}
use Rattle.std.specs.Cmp.Lexicographic.{slice_cmp}
use Rattle.std.proofs.lemmas.Cmp.{int_cmp_total, lists_total, tied_itself}
use Rattle.plain_lemmas.proofs.OrderLaws.{slice_cmp-exact}
use Rattle.orders.specs.Orders.{Ordered}
use Rattle.plain_lemmas.specs.Lists.{Has}
use Rattle.level_walk.specs.Orders.{Precedes}
use Rattle.level_walk.specs.Listed.{AllDiffer, LeastIsNext, comes_before, is_after, least_after, left_after, lesser, put_point}
use Rattle.plain_lemmas.proofs.MembershipLaws.{all-from, all-has}

total : IsTotalOrder (slice_cmp int_cmp)
total = lists_total int_cmp_total

before-is : (x y : List ℤ) → comes_before x y ≡ true → Precedes x y
before-is x y h = at (slice_cmp int_cmp x y) h
  where
    at : (o : Ordering) → is_lt o ≡ true → o ≡ Less
    at Less e = refl
    at Equal e = absurd (let wrong : false ≡ true = e in cc)
    at Greater e = absurd (let wrong : false ≡ true = e in cc)

is-before : (x y : List ℤ) → Precedes x y → comes_before x y ≡ true
is-before x y h = ap is_lt h

not-tied : (x y : List ℤ) → (x ≡ y → ⊥) → slice_cmp int_cmp x y ≡ Equal → ⊥
not-tied x y differ e = differ (slice_cmp-exact x y e)

-- what a put list holds

has-put : (x : List ℤ) (ys : List (List ℤ)) (z : List ℤ) → Has (put_point x ys) z → (z ≡ x) ⊎ Has ys z
has-put x [] z h = h
has-put x (y ∷ ys) z h = at (comes_before y x) h (has-put x ys z)
  where
    at : (b : Bool) → Has (if b then y ∷ put_point x ys else x ∷ y ∷ ys) z → (Has (put_point x ys) z → (z ≡ x) ⊎ Has ys z) → (z ≡ x) ⊎ Has (y ∷ ys) z
    at true (inl e) more = inr (inl e)
    at true (inr k) more = ⊎_elim (λ e. inl e) (λ i. inr (inr i)) (more k)
    at false k more = k

put-has : (x : List ℤ) (ys : List (List ℤ)) (z : List ℤ) → (z ≡ x) ⊎ Has ys z → Has (put_point x ys) z
put-has x [] z h = h
put-has x (y ∷ ys) z h = at (comes_before y x) h (put-has x ys z)
  where
    at : (b : Bool) → (z ≡ x) ⊎ Has (y ∷ ys) z → ((z ≡ x) ⊎ Has ys z → Has (put_point x ys) z) → Has (if b then y ∷ put_point x ys else x ∷ y ∷ ys) z
    at true (inl e) more = inr (more (inl e))
    at true (inr (inl e)) more = inl e
    at true (inr (inr k)) more = inr (more (inr k))
    at false k more = k

put-ordered : (x : List ℤ) (ys : List (List ℤ)) → AllByRecursion (λ y. x ≡ y → ⊥) ys → Ordered Precedes ys → Ordered Precedes (put_point x ys)
put-ordered x [] all ord = (tt, tt)
put-ordered x (y ∷ ys) all ord = at (slice_cmp int_cmp y x) refl (put-ordered x ys all.1 ord.1)
  where
    at : (o : Ordering) → slice_cmp int_cmp y x ≡ o → Ordered Precedes (put_point x ys) → Ordered Precedes (if is_lt o then y ∷ put_point x ys else x ∷ y ∷ ys)
    at Less e more = (all-from (Precedes y) (put_point x ys) (λ z h. ⊎_elim (λ is. subst (Precedes y) (sym is) e) (λ k. all-has (Precedes y) ys z ord.0 k) (has-put x ys z h)), more)
    at Equal e more = absurd (not-tied x y all.0 (total.antisymm x y ∙ ap ordering_reverse e))
    at Greater e more = let below : Precedes x y = total.antisymm x y ∙ ap ordering_reverse e in
        ((below, all-from (Precedes x) ys (λ z h. total.trans x y z below (all-has (Precedes y) ys z ord.0 h))), ord)

-- what is left

pub left-from : (last : Option (List ℤ)) (list : List (List ℤ)) (z : List ℤ) → Has (left_after last list) z → Has list z × (is_after last z ≡ true)
unfolding left_after
left-from last [] z h = absurd h
left-from last (x ∷ xs) z h = at (is_after last x) refl h (left-from last xs z)
  where
    at : (b : Bool) → is_after last x ≡ b → Has (if b then put_point x (left_after last xs) else left_after last xs) z → (Has (left_after last xs) z → Has xs z × (is_after last z ≡ true)) → Has (x ∷ xs) z × (is_after last z ≡ true)
    at true e k more = ⊎_elim (λ is. (inl is, ap (is_after last) is ∙ e)) (λ m. let r = more m in (inr r.0, r.1)) (has-put x (left_after last xs) z k)
    at false e k more = let r = more k in (inr r.0, r.1)

pub left-to : (last : Option (List ℤ)) (list : List (List ℤ)) (z : List ℤ) → Has list z → is_after last z ≡ true → Has (left_after last list) z
unfolding left_after
left-to last [] z h e = absurd h
left-to last (x ∷ xs) z h e = at (is_after last x) refl h (λ k. left-to last xs z k e)
  where
    at : (b : Bool) → is_after last x ≡ b → Has (x ∷ xs) z → (Has xs z → Has (left_after last xs) z) → Has (if b then put_point x (left_after last xs) else left_after last xs) z
    at true f (inl is) more = put-has x (left_after last xs) z (inl is)
    at true f (inr k) more = put-has x (left_after last xs) z (inr (more k))
    at false f (inl is) more = absurd (let both = ap (is_after last) is in cc)
    at false f (inr k) more = more k

pub left-ordered : (last : Option (List ℤ)) (list : List (List ℤ)) → AllDiffer list → Ordered Precedes (left_after last list)
unfolding left_after
left-ordered last [] differ = tt
left-ordered last (x ∷ xs) differ = at (is_after last x) (left-ordered last xs differ.1)
  where
    at : (b : Bool) → Ordered Precedes (left_after last xs) → Ordered Precedes (if b then put_point x (left_after last xs) else left_after last xs)
    at true more = put-ordered x (left_after last xs) (all-from (λ y. x ≡ y → ⊥) (left_after last xs) (λ z h. all-has (λ y. x ≡ y → ⊥) xs z differ.0 (left-from last xs z h).0)) more
    at false more = more

-- the least

pub record IsLeast (last best : Option (List ℤ)) (list : List (List ℤ)) (p : List ℤ) : Type 0 where
  pub from : (best ≡ Some p) ⊎ (Has list p × (is_after last p ≡ true))
  pub best-not-less : (b : List ℤ) → best ≡ Some b → (b ≡ p) ⊎ Precedes p b
  pub least : (z : List ℤ) → Has list z → is_after last z ≡ true → (z ≡ p) ⊎ Precedes p z

pub least-is : (last best : Option (List ℤ)) (list : List (List ℤ)) (p : List ℤ) → least_after last best list ≡ Some p → IsLeast last best list p
unfolding least_after
least-is last best [] p is = record { from = inl is; best-not-less = λ b e. inl (let both : Some b ≡ Some p = sym e ∙ is in cc); least = λ z h e. absurd h }
least-is last best (x ∷ xs) p is = at (is_after last x) refl (λ next e. least-is last next xs p e) is
  where
    -- which of two is taken
    of-two : (best : Option (List ℤ)) → IsLeast last (lesser best x) xs p → ((b : List ℤ) → best ≡ Some b → (b ≡ p) ⊎ Precedes p b) × ((x ≡ p) ⊎ Precedes p x) × ((best ≡ Some p) ⊎ ((x ≡ p) ⊎ (Has xs p × (is_after last p ≡ true))))
    of-two None more = (
      λ b e. absurd (cc),
      more.best-not-less x refl,
      ⊎_elim (λ e. inr (inl (let both : Some x ≡ Some p = e in cc))) (λ h. inr (inr h)) more.from,
    )
    of-two (Some c) more = by (slice_cmp int_cmp x c) refl more
      where
        by : (o : Ordering) → slice_cmp int_cmp x c ≡ o → IsLeast last (if is_lt o then Some x else Some c) xs p → ((b : List ℤ) → Some c ≡ Some b → (b ≡ p) ⊎ Precedes p b) × ((x ≡ p) ⊎ Precedes p x) × ((Some c ≡ Some p) ⊎ ((x ≡ p) ⊎ (Has xs p × (is_after last p ≡ true))))
        by Less e less =
            let here = less.best-not-less x refl in (
              λ b f. let same : c ≡ b = cc in inr (⊎_elim (λ (s : x ≡ p). subst (λ (q : List ℤ). Precedes q b) s (subst (Precedes x) same e)) (λ l. total.trans p x b l (subst (Precedes x) same e)) here),
              here,
              ⊎_elim (λ s. inr (inl (let both : Some x ≡ Some p = s in cc))) (λ h. inr (inr h)) less.from,
            )
        by Equal e less =
            let same : x ≡ c = slice_cmp-exact x c e in
            let here = less.best-not-less c refl in (
              λ b f. less.best-not-less b f,
              ⊎_elim (λ s. inl (same ∙ s)) (λ l. inr (subst (Precedes p) (sym same) l)) here,
              ⊎_elim (λ s. inl s) (λ h. inr (inr h)) less.from,
            )
        by Greater e less =
            let over : Precedes c x = total.antisymm c x ∙ ap ordering_reverse e in
            let here = less.best-not-less c refl in (
              λ b f. less.best-not-less b f,
              inr (⊎_elim (λ (s : c ≡ p). subst (λ (q : List ℤ). Precedes q x) s over) (λ l. total.trans p c x l over) here),
              ⊎_elim (λ s. inl s) (λ h. inr (inr h)) less.from,
            )

    at : (b : Bool) → is_after last x ≡ b → ((next : Option (List ℤ)) → least_after last next xs ≡ Some p → IsLeast last next xs p) → least_after last (if b then lesser best x else best) xs ≡ Some p → IsLeast last best (x ∷ xs) p
    at true e go is =
        let more = go (lesser best x) is in
        let two = of-two best more in
        record {
          from = ⊎_elim (λ s. inl s) (λ other. inr (⊎_elim (λ (s : x ≡ p). (inl (sym s), ap (is_after last) (sym s) ∙ e)) (λ h. (inr h.0, h.1)) other)) two.2;
          best-not-less = two.0;
          least = λ z h f. ⊎_elim (λ (s : z ≡ x). ⊎_elim (λ t. inl (s ∙ t)) (λ l. inr (subst (Precedes p) (sym s) l)) two.1) (λ k. more.least z k f) h;
        }
    at false e go is =
        let more = go best is in
        record {
          from = ⊎_elim (λ s. inl s) (λ h. inr (inr h.0, h.1)) more.from;
          best-not-less = more.best-not-less;
          least = λ z h f. ⊎_elim (λ (s : z ≡ x). absurd (let both = ap (is_after last) s in cc)) (λ k. more.least z k f) h;
        }

-- one order of a list has one form

never-both : (x y : List ℤ) → Precedes x y → Precedes y x → ⊥
never-both x y h k = let e = tied_itself total x in let l = total.trans x y x h k in cc

pub unique : (xs ys : List (List ℤ)) → Ordered Precedes xs → Ordered Precedes ys → ((z : List ℤ) → Has xs z → Has ys z) → ((z : List ℤ) → Has ys z → Has xs z) → xs ≡ ys
unique [] [] first second there back = refl
unique [] (y ∷ ys) first second there back = absurd (back y (inl refl))
unique (x ∷ xs) [] first second there back = absurd (there x (inl refl))
unique (x ∷ xs) (y ∷ ys) first second there back =
    let heads = at-heads (there x (inl refl)) (back y (inl refl)) in
    ap₂ (λ z zs. z ∷ zs) heads (unique xs ys first.1 second.1 (λ z h. tail-there heads z h (there z (inr h))) (λ z h. tail-back heads z h (back z (inr h))))
  where
    at-heads : Has (y ∷ ys) x → Has (x ∷ xs) y → x ≡ y
    at-heads (inl e) k = e
    at-heads (inr h) (inl e) = sym e
    at-heads (inr h) (inr k) = absurd (never-both x y (all-has (Precedes x) xs y first.0 k) (all-has (Precedes y) ys x second.0 h))

    tail-there : x ≡ y → (z : List ℤ) → Has xs z → Has (y ∷ ys) z → Has ys z
    tail-there heads z h (inr k) = k
    tail-there heads z h (inl e) = let at : Precedes x x = subst (Precedes x) (e ∙ sym heads) (all-has (Precedes x) xs z first.0 h) in absurd (never-both x x at at)

    tail-back : x ≡ y → (z : List ℤ) → Has ys z → Has (x ∷ xs) z → Has xs z
    tail-back heads z h (inr k) = k
    tail-back heads z h (inl e) = let at : Precedes y y = subst (Precedes y) (e ∙ heads) (all-has (Precedes y) ys z second.0 h) in absurd (never-both y y at at)

after-trans : (last : Option (List ℤ)) (p z : List ℤ) → is_after last p ≡ true → Precedes p z → is_after last z ≡ true
after-trans None p z h l = refl
after-trans (Some b) p z h l = is-before b z (total.trans b p z (before-is b p h) l)

pub least-is-next : LeastIsNext
least-is-next last list point differ is =
    let least = least-is last None list point is in
    let found : Has list point × (is_after last point ≡ true) = ⊎_elim (λ e. absurd (cc)) (λ h. h) least.from in
    unique (left_after last list) (point ∷ left_after (Some point) list)
    (left-ordered last list differ)
    (all-from (Precedes point) (left_after (Some point) list) (λ z h. before-is point z (left-from (Some point) list z h).1), left-ordered (Some point) list differ)
    (λ z h. let (has, after) = left-from last list z h in ⊎_elim (λ e. inl e) (λ l. inr (left-to (Some point) list z has (is-before point z l))) (least.least z has after))
    (λ z h. ⊎_elim
    (λ (e : z ≡ point). subst (Has (left_after last list)) (sym e) (left-to last list point found.0 found.1))
    (λ k. let (has, after) = left-from (Some point) list z k in left-to last list z has (after-trans last point z found.1 (before-is point z after)))
    h)
