-- A launch has one end: a chunk is held at one instance for one reason, or launched with one number of instances.
use Rattle.std.proofs.Common.{◌≡◌, refl, ap, ap₂, ◌∙◌, sym, subst, ℕ, ◌<◌, ◌≤◌, ℤ, pos, unsigned_abs, List, [], ◌∷◌, ◌++◌, length, get_or, take, drop, Some, ◌⊎◌, inl, inr, Ordering, Less, Equal, Greater, int_cmp, arith}
use Rattle.std.specs.Ordering.{ordering_reverse}
use Rattle.std.specs.Cmp.Lexicographic.{slice_cmp}
use Rattle.std.proofs.lemmas.Bool.{cases_lt}
use Rattle.std.proofs.lemmas.Cmp.{lists_total, int_cmp_total}
use Rattle.std.proofs.Math.Seq.{drop-append_seam, take-append_seam}
use Rattle.std.proofs.lemmas.List.FromFn.{get_or-map-range_with_len}
use Rattle.std.proofs.lemmas.Option.{none-some}
use Rattle.plain_lemmas.proofs.OrderLaws.{slice_cmp-exact}
use Rattle.orders.specs.Orders.{Ordered, SameElements}
use Rattle.plain_lemmas.specs.Lists.{Has}
use Rattle.orders.proofs.ListLaws.{has-split, ordered-across, ordered-right}
use Rattle.plain_lemmas.proofs.MembershipLaws.{all-from, all-has, contains-from-has, has-from-contains, has-cases, has-left}
use Rattle.orders.proofs.SortLaws.{ordering-unique, never-both, never-itself}
use Rattle.domain.specs.declared.chunk.Chunk.{Chunk}
use Rattle.domain.specs.declared.held.HeldWhy.{HeldWhy}
use Rattle.domain.specs.Tables.{Table, block_at, counters, depth}
use Rattle.domain.specs.Instances.{Instance, IsInstance, Ordered as InOrder, Precedes, Predicted, block_of, counter, instance, original_key, padded, place}
use Rattle.domain.specs.Launches.{IsBefore, IsHeld, IsLaunched, Passes, failure}
use Rattle.domain.proofs.PlaceLaws.{place-counter}
use Rattle.dependence.proofs.SystemLaws.{length-padded}
use Rattle.skeletons.proofs.BlockLaws.{same_numbers}
use Rattle.journeys.specs.Laws.{LaunchHasOneEnd}

-- domain's word for an order is that of orders
in-order : {X : Type 0} (R : X → X → Type 0) (xs : List X) → InOrder R xs → Ordered R xs
in-order R [] h = tt
in-order R (x ∷ xs) h = (h.0, in-order R xs h.1)

module _ (t : Table) where
  -- ---- original order

  never-back : (x y : Instance) → Precedes t x y → Precedes t y x → ⊥
  never-back x y h k = never-both (slice_cmp int_cmp) (lists_total int_cmp_total) (original_key t) x y h k

  never-same : (x : Instance) → Precedes t x x → ⊥
  never-same x h = never-itself (slice_cmp int_cmp) (lists_total int_cmp_total) (original_key t) x h

  later : (x y z : Instance) → Precedes t x y → Precedes t y z → Precedes t x z
  later x y z h k = (lists_total int_cmp_total).trans (original_key t x) (original_key t y) (original_key t z) h k

  -- an instance is known by its key
  known : (x y : Instance) → IsInstance t x → IsInstance t y → original_key t x ≡ original_key t y → x ≡ y
  unfolding padded
  known x y i j same = ap₂ instance block numbers
    where
      size : length (padded t x) ≡ length (padded t y)
      size = length-padded t x ∙ sym (length-padded t y)

      points : padded t x ≡ padded t y
      points = sym (take-append_seam (padded t x) (pos x.block ∷ [])) ∙ ap₂ (λ (n : ℕ) (zs : List ℤ). take n zs) size same ∙ take-append_seam (padded t y) (pos y.block ∷ [])

      ranks : pos x.block ∷ [] ≡ pos y.block ∷ []
      ranks = sym (drop-append_seam (padded t x) (pos x.block ∷ [])) ∙ ap₂ (λ (n : ℕ) (zs : List ℤ). drop n zs) size same ∙ drop-append_seam (padded t y) (pos y.block ∷ [])

      block : x.block ≡ y.block
      block = ap (λ (zs : List ℤ). unsigned_abs (get_or zs 0 (pos 0))) ranks

      counts : counters t (block_of t x) ≡ counters t (block_of t y)
      counts = ap (λ (n : ℕ). counters t (block_at t n)) block

      there : (k : ℕ) → k < depth t → place t (block_of t x) x.at k ≡ place t (block_of t y) y.at k
      there k inside =
          sym (get_or-map-range_with_len (place t (block_of t x) x.at) 0 (depth t) k k (pos 0) inside (omega arith))
          ∙ ap (λ (zs : List ℤ). get_or zs k (pos 0)) points
          ∙ get_or-map-range_with_len (place t (block_of t y) y.at) 0 (depth t) k k (pos 0) inside (omega arith)

      number : (k : ℕ) → k < depth t → (k < counters t (block_of t x)) ⊎ (counters t (block_of t x) ≤ k) → counter x.at k ≡ counter y.at k
      number k inside (inl m) = let c = counts in sym (place-counter t (block_of t x) x.at k m) ∙ there k inside ∙ place-counter t (block_of t y) y.at k (omega (arith, m, c))
      number k inside (inr m) = let c = counts in i.rest k m ∙ sym (j.rest k (omega (arith, m, c)))

      numbers : x.at ≡ y.at
      numbers = same_numbers x.at y.at (i.size ∙ sym j.size) (λ k l. let s = i.size in number k (omega (arith, l, s)) (cases_lt k (counters t (block_of t x))))

  -- one of two instances precedes the other, or they are one
  three : (x y : Instance) → IsInstance t x → IsInstance t y → Precedes t x y ⊎ ((x ≡ y) ⊎ Precedes t y x)
  three x y i j = by (slice_cmp int_cmp (original_key t x) (original_key t y)) refl
    where
      by : (r : Ordering) → slice_cmp int_cmp (original_key t x) (original_key t y) ≡ r → Precedes t x y ⊎ ((x ≡ y) ⊎ Precedes t y x)
      by Less e = inl e
      by Equal e = inr (inl (known x y i j (slice_cmp-exact (original_key t x) (original_key t y) e)))
      by Greater e = inr (inr ((lists_total int_cmp_total).antisymm (original_key t y) (original_key t x) ∙ ap ordering_reverse e))

  -- lists in original order with the same elements are one
  one-list : (xs ys : List Instance) → Ordered (Precedes t) xs → Ordered (Precedes t) ys → SameElements xs ys → xs ≡ ys
  one-list xs ys o p same = ordering-unique (Precedes t) never-back xs ys o p same

  -- ---- launches

  module _ (words : ℤ) (chunk : Chunk) where
    pub instances-one : (m n : ℕ) → IsLaunched t words chunk m → IsLaunched t words chunk n → m ≡ n
    instances-one m n a b =
        sym a.count
        ∙ ap (λ (xs : List Instance). length xs) (one-list a.list b.list (in-order (Precedes t) a.list a.original.ordered) (in-order (Precedes t) b.list b.original.ordered) (record {
          there = λ z h. has-from-contains b.list z ((b.original.has z).1 ((a.original.has z).0 (contains-from-has a.list z h)));
          back = λ z h. has-from-contains a.list z ((a.original.has z).1 ((b.original.has z).0 (contains-from-has b.list z h)));
        }))
        ∙ b.count

    -- some predicted instances in original order, with all that precede one of them
    record AreUpTo (x : Instance) (all : List Instance) : Type 0 where
      ordered : Ordered (Precedes t) all
      predicted : (z : Instance) → Has all z → Predicted t chunk z
      before : (z : Instance) → Predicted t chunk z → Precedes t z x → Has all z

    -- those before it in the list are those that precede it
    front-is : (x : Instance) (us vs xs : List Instance) → AreUpTo x (us ++ x ∷ vs) → IsBefore t chunk x xs → us ≡ xs
    front-is x us vs xs all those = one-list us xs (left us (x ∷ vs) all.ordered) (in-order (Precedes t) xs those.ordered) (record {
      there = λ z h. has-from-contains xs z ((those.has z).1 (all.predicted z (has-left us (x ∷ vs) z h), ordered-across (Precedes t) us (x ∷ vs) z x all.ordered h (inl refl)));
      back = λ z h. let is = (those.has z).0 (contains-from-has xs z h) in among z is.1 (has-cases us (x ∷ vs) z (all.before z is.0 is.1));
    })
      where
        left : (bs ds : List Instance) → Ordered (Precedes t) (bs ++ ds) → Ordered (Precedes t) bs
        left [] ds o = tt
        left (b ∷ bs) ds o = (all-from (Precedes t b) bs (λ z h. all-has (Precedes t b) (bs ++ ds) z o.0 (has-left bs ds z h)), left bs ds o.1)

        among : (z : Instance) → Precedes t z x → Has us z ⊎ Has (x ∷ vs) z → Has us z
        among z less (inl h) = h
        among z less (inr (inl e)) = absurd (never-same x (subst (λ (y : Instance). Precedes t y x) e less))
        among z less (inr (inr h)) = absurd (never-back z x less (all-has (Precedes t x) vs z (ordered-right (Precedes t) us (x ∷ vs) all.ordered).0 h))

    -- no chunk is held at an instance of which it passed
    passed : (x : Instance) (why : HeldWhy) (all : List Instance) → AreUpTo x all → Passes t words all → Has all x → IsHeld t words chunk x why → ⊥
    passed x why all are passes has held =
        let split = has-split all x has in
        let same = front-is x split.0 split.1 held.before (subst (AreUpTo x) split.2 are) held.those in
        none-some why (sym (passes split.0 x split.1 split.2) ∙ ap (λ (us : List Instance). failure t words us x) same ∙ held.fails)

    pub held-or-launched : (x : Instance) (why : HeldWhy) (n : ℕ) → IsHeld t words chunk x why → IsLaunched t words chunk n → ⊥
    held-or-launched x why n held launched = passed x why launched.list are launched.passes (has-from-contains launched.list x ((launched.original.has x).1 held.predicted)) held
      where
        are : AreUpTo x launched.list
        are = record {
          ordered = in-order (Precedes t) launched.list launched.original.ordered;
          predicted = λ z h. (launched.original.has z).0 (contains-from-has launched.list z h);
          before = λ z is less. has-from-contains launched.list z ((launched.original.has z).1 is);
        }

    -- no chunk is held at an instance that precedes another one at which it is
    not-earlier : (x y : Instance) (why other : HeldWhy) → IsHeld t words chunk x why → IsHeld t words chunk y other → Precedes t x y → ⊥
    not-earlier x y why other a b less = passed x why b.before are b.passes (has-from-contains b.before x ((b.those.has x).1 (a.predicted, less))) a
      where
        are : AreUpTo x b.before
        are = record {
          ordered = in-order (Precedes t) b.before b.those.ordered;
          predicted = λ z h. ((b.those.has z).0 (contains-from-has b.before z h)).0;
          before = λ z is earlier. has-from-contains b.before z ((b.those.has z).1 (is, later z x y earlier less));
        }

    some-why : (x y : HeldWhy) → Some x ≡ Some y → x ≡ y
    some-why x y e = cc

    same-why : (x : Instance) (why other : HeldWhy) → IsHeld t words chunk x why → IsHeld t words chunk x other → why ≡ other
    same-why x why other a b =
        let same = one-list a.before b.before (in-order (Precedes t) a.before a.those.ordered) (in-order (Precedes t) b.before b.those.ordered) (record {
          there = λ z h. has-from-contains b.before z ((b.those.has z).1 ((a.those.has z).0 (contains-from-has a.before z h)));
          back = λ z h. has-from-contains a.before z ((a.those.has z).1 ((b.those.has z).0 (contains-from-has b.before z h)));
        }) in
        some-why why other (sym a.fails ∙ ap (λ (us : List Instance). failure t words us x) same ∙ b.fails)

    pub held-one : (x y : Instance) (why other : HeldWhy) → IsHeld t words chunk x why → IsHeld t words chunk y other → (x ≡ y) × (why ≡ other)
    held-one x y why other a b = elim (three x y a.predicted.is b.predicted.is) [
      | inl less ↦ absurd (not-earlier x y why other a b less)
      | inr not-less ↦ elim not-less [
        | inl same ↦ (same, same-why x why other a (subst (λ (z : Instance). IsHeld t words chunk z other) (sym same) b))
        | inr more ↦ absurd (not-earlier y x other why b a more)
      ]
    ]

pub launch-has-one-end : LaunchHasOneEnd
launch-has-one-end t chunk words = record {
  held = λ x y why other a b. held-one t words chunk x y why other a b;
  launched = λ m n a b. instances-one t words chunk m n a b;
  not_both = λ x why n a b. held-or-launched t words chunk x why n a b;
}
