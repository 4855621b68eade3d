-- The least of what several blocks have left comes first, and the rest is left.
use Rattle.std.proofs.Common.{◌≡◌, ℕ, zero, suc, ◌+◌, ◌<◌, ◌≤◌, ℤ, Bool, true, false, List, [], ◌∷◌, ◌++◌, map, length, drop, get_or, append_assoc, refl, sym, ap, ap₂, ◌∙◌, subst, inl, inr, ⊎_elim, Ordering, Less, Equal, Greater, int_cmp, is_lt, arith}
use Rattle.std.specs.Prelude.{if◌then◌else◌, ◌⊎◌, Option, Some, None, MatchOption}
use Rattle.std.specs.List.{AllByRecursion}
use Rattle.std.specs.Cmp.{IsTotalOrder}
use Rattle.std.specs.Ordering.{nat_cmp, ordering_reverse, ordering_then}
use Rattle.std.specs.Cmp.Lexicographic.{slice_cmp}
use Rattle.std.proofs.lemmas.Bool.Decides.{nat_tests}
use Rattle.std.proofs.lemmas.Cmp.{int_cmp_total, lists_total, nat_cmp_total, on_total, then_total, tied_back}
use Rattle.std.proofs.Math.ListN.{set}
use Rattle.arrayvec.specs.ArrayVec.{ArrayVec}
use Rattle.orders.specs.Orders.{Ordered}
use Rattle.plain_lemmas.specs.Lists.{Has}
use Rattle.level_walk.specs.Orders.{Precedes}
use Rattle.level_walk.specs.Merges.{AllOrdered, Comes, IsMerged, better, by_place, first, merged, pick, put, sorted, stepped, tag, tagged}
use Rattle.level_walk.specs.declared.merges.Best.{Best}
use Rattle.plain_lemmas.proofs.MembershipLaws.{all-from, all-has}

by-place-total : IsTotalOrder by_place
by-place-total = then_total (on_total (λ (b : Best). b.point.items) (lists_total int_cmp_total)) (on_total (λ (b : Best). b.rank) nat_cmp_total)

comes-trans : (x y z : Best) → Comes x y → Comes y z → Comes x z
comes-trans x y z h k = by-place-total.trans x y z h k

-- the sort begins with what comes before all

has-put : (x : Best) (ys : List Best) (z : Best) → Has (put x ys) z → (z ≡ x) ⊎ Has ys z
has-put x [] z h = h
has-put x (y ∷ ys) z h = at (is_lt (by_place y x)) h (has-put x ys z)
  where
    at : (b : Bool) → Has (if b then y ∷ put x ys else x ∷ y ∷ ys) z → (Has (put x ys) z → (z ≡ x) ⊎ Has ys z) → (z ≡ x) ⊎ Has (y ∷ ys) z
    at true (inl e) more = inr (inl e)
    at true (inr k) more = ⊎_elim (λ e. inl e) (λ i. inr (inr i)) (more k)
    at false k more = k

has-sorted : (xs : List Best) (z : Best) → Has (sorted xs) z → Has xs z
has-sorted [] z h = h
has-sorted (x ∷ xs) z h = ⊎_elim (λ e. inl e) (λ k. inr (has-sorted xs z k)) (has-put x (sorted xs) z h)

not-less : (x y : Best) → Comes x y → is_lt (by_place y x) ≡ false
not-less x y h = ap is_lt (by-place-total.antisymm y x ∙ ap ordering_reverse h)

put-first : (x : Best) (ys : List Best) → AllByRecursion (Comes x) ys → put x ys ≡ x ∷ ys
put-first x [] all = refl
put-first x (y ∷ ys) all = ap (λ (b : Bool). if b then y ∷ put x ys else x ∷ y ∷ ys) (not-less x y all.0)

put-after : (x y : Best) (ys : List Best) → Comes y x → put x (y ∷ ys) ≡ y ∷ put x ys
put-after x y ys h = ap (λ (b : Bool). if b then y ∷ put x ys else x ∷ y ∷ ys) (ap is_lt h)

pub sorted-first : (us vs : List Best) (x : Best) → AllByRecursion (Comes x) us → AllByRecursion (Comes x) vs → sorted (us ++ x ∷ vs) ≡ x ∷ sorted (us ++ vs)
sorted-first [] vs x first second = put-first x (sorted vs) (all-from (Comes x) (sorted vs) (λ z h. all-has (Comes x) vs z second (has-sorted vs z h)))
sorted-first (u ∷ us) vs x first second = ap (put u) (sorted-first us vs x first.1 second) ∙ put-after u x (sorted (us ++ vs)) first.0

-- points of one block, and of two

same-point : (rank : ℕ) (p q : List ℤ) → Precedes p q → Comes (tag rank p) (tag rank q)
same-point rank p q h = ap (λ (o : Ordering). ordering_then o (nat_cmp rank rank)) h

tag-all : (rank : ℕ) (p : List ℤ) (ps : List (List ℤ)) → AllByRecursion (Precedes p) ps → AllByRecursion (Comes (tag rank p)) (map (tag rank) ps)
tag-all rank p [] all = tt
tag-all rank p (q ∷ ps) all = (same-point rank p q all.0, tag-all rank p ps all.1)

all-later : (x y : Best) (zs : List Best) → Comes x y → AllByRecursion (Comes y) zs → AllByRecursion (Comes x) zs
all-later x y [] h all = tt
all-later x y (z ∷ zs) h all = (comes-trans x y z h all.0, all-later x y zs h all.1)

all-append : (P : Best → Type 0) (xs ys : List Best) → AllByRecursion P xs → AllByRecursion P ys → AllByRecursion P (xs ++ ys)
all-append P [] ys first second = second
all-append P (x ∷ xs) ys first second = (first.0, all-append P xs ys first.1 second)

-- of the best so far and a point of a later block, the better comes before the other
pub record IsBetter (b x found : Best) : Type 0 where
  pub case : ((found ≡ b) × Comes b x) ⊎ ((found ≡ x) × Comes x b)

rank-less : (m n : ℕ) → m < n → nat_cmp m n ≡ Less
rank-less m n h = grind (arith, nat_tests)

pub better-is : (b : Best) (rank : ℕ) (p : List ℤ) → b.rank < rank → IsBetter b (tag rank p) (better (Some b) (tag rank p))
better-is b rank p before = at (slice_cmp int_cmp p b.point.items) refl
  where
    at : (o : Ordering) → slice_cmp int_cmp p b.point.items ≡ o → IsBetter b (tag rank p) (if is_lt o then tag rank p else b)
    at Less e = record { case = inr (refl, ap (λ (r : Ordering). ordering_then r (nat_cmp rank b.rank)) e) }
    at Equal e = record { case = inl (refl, ap (λ (r : Ordering). ordering_then r (nat_cmp b.rank rank)) (tied_back (lists_total int_cmp_total) p b.point.items e) ∙ rank-less b.rank rank before) }
    at Greater e = record { case = inl (refl, ap (λ (r : Ordering). ordering_then r (nat_cmp b.rank rank)) ((lists_total int_cmp_total).antisymm b.point.items p ∙ ap ordering_reverse e)) }

-- what was found: it is the best so far and comes before all points of these blocks, or it is one of them and comes before all others

pub record IsFound (q : ℕ) (blocks : List (List (List ℤ))) (b : Best) : Type 0 where
  pub index : ℕ
  pub rank : b.rank ≡ q + index
  pub inside : index < length blocks
  pub us : List Best
  pub vs : List Best
  pub old : tagged q blocks ≡ us ++ b ∷ vs
  pub new : tagged q (stepped index blocks) ≡ us ++ vs
  pub before : AllByRecursion (Comes b) us
  pub after : AllByRecursion (Comes b) vs

abbrev pub Among : ℕ → List (List (List ℤ)) → Best → Best → Type 0
Among q blocks b0 b = ((b ≡ b0) × AllByRecursion (Comes b) (tagged q blocks)) ⊎ (Comes b b0 × IsFound q blocks b)

-- one block more in front
shifted : (q : ℕ) (ps : List (List ℤ)) (blocks : List (List (List ℤ))) (b : Best) → AllByRecursion (Comes b) (map (tag q) ps) → IsFound (suc q) blocks b → IsFound q (ps ∷ blocks) b
shifted q ps blocks b all found =
    let rank = found.rank in
    let inside = found.inside in
    record {
      index = suc found.index;
      rank = omega (arith, rank);
      inside = omega (arith, inside);
      us = map (tag q) ps ++ found.us;
      vs = found.vs;
      old = ap (λ l. map (tag q) ps ++ l) found.old ∙ sym (append_assoc (map (tag q) ps) found.us (b ∷ found.vs));
      new = ap (λ l. map (tag q) ps ++ l) found.new ∙ sym (append_assoc (map (tag q) ps) found.us found.vs);
      before = all-append (Comes b) (map (tag q) ps) found.us all found.before;
      after = found.after;
    }

-- the first point of the first block
at-front : (q : ℕ) (p : List ℤ) (ps : List (List ℤ)) (blocks : List (List (List ℤ))) (b : Best) → b ≡ tag q p → Ordered Precedes (p ∷ ps) → AllByRecursion (Comes b) (tagged (suc q) blocks) → IsFound q ((p ∷ ps) ∷ blocks) b
at-front q p ps blocks b e ord all = record {
  index = zero;
  rank = ap (λ (x : Best). x.rank) e ∙ omega arith;
  inside = omega arith;
  us = [];
  vs = map (tag q) ps ++ tagged (suc q) blocks;
  old = ap (λ (x : Best). x ∷ (map (tag q) ps ++ tagged (suc q) blocks)) (sym e);
  new = refl;
  before = tt;
  after = all-append (Comes b) (map (tag q) ps) (tagged (suc q) blocks) (subst (λ (x : Best). AllByRecursion (Comes x) (map (tag q) ps)) (sym e) (tag-all q p ps ord.0)) all;
}

-- what comes before the first point of a block comes before all its points
all-of-block : (q : ℕ) (p : List ℤ) (ps : List (List ℤ)) (b : Best) → Comes b (tag q p) → Ordered Precedes (p ∷ ps) → AllByRecursion (Comes b) (map (tag q) (p ∷ ps))
all-of-block q p ps b h ord = (h, all-later b (tag q p) (map (tag q) ps) h (tag-all q p ps ord.0))

pub first-among : (blocks : List (List (List ℤ))) (q : ℕ) (b0 : Best) → b0.rank < q → AllOrdered blocks → (b : Best) × (first (Some b0) q blocks ≡ Some b) × Among q blocks b0 b
unfolding first
first-among [] q b0 before ord = (b0, refl, inl (refl, tt))
first-among ([] ∷ blocks) q b0 before ord =
    let (b, is, among) = first-among blocks (suc q) b0 (omega arith) ord.1 in
    (b, is, ⊎_elim (λ l. inl l) (λ r. inr (r.0, shifted q [] blocks b tt r.1)) among)
first-among ((p ∷ ps) ∷ blocks) q b0 before ord =
    by-case (better (Some b0) (tag q p)) (better-is b0 q p before).case (λ x h. first-among blocks (suc q) x h ord.1)
  where
    by-case : (x : Best) → ((x ≡ b0) × Comes b0 (tag q p)) ⊎ ((x ≡ tag q p) × Comes (tag q p) b0)
        → ((y : Best) → y.rank < suc q → (b : Best) × (first (Some y) (suc q) blocks ≡ Some b) × Among (suc q) blocks y b)
        → (b : Best) × (first (Some x) (suc q) blocks ≡ Some b) × Among q ((p ∷ ps) ∷ blocks) b0 b
    by-case x (inl (e, h)) more =
        let (b, is, among) = more x (let r : x.rank ≡ b0.rank = ap (λ (y : Best). y.rank) e in omega arith) in (
          b,
          is,
          ⊎_elim
              (λ l. let same : b ≡ b0 = l.0 ∙ e in
              inl (same, all-append (Comes b) (map (tag q) (p ∷ ps)) (tagged (suc q) blocks) (all-of-block q p ps b (subst (λ (y : Best). Comes y (tag q p)) (sym same) h) ord.0) l.1))
              (λ r. let better_than : Comes b b0 = subst (Comes b) e r.0 in
              inr (better_than, shifted q (p ∷ ps) blocks b (all-of-block q p ps b (comes-trans b b0 (tag q p) better_than h) ord.0) r.1))
              among,
        )
    by-case x (inr (e, h)) more =
        let (b, is, among) = more x (let r : x.rank ≡ q = ap (λ (y : Best). y.rank) e in omega arith) in (
          b,
          is,
          ⊎_elim
              (λ l. let same : b ≡ tag q p = l.0 ∙ e in
              inr (subst (λ (y : Best). Comes y b0) (sym same) h, at-front q p ps blocks b same ord.0 l.1))
              (λ r. let better_than : Comes b (tag q p) = subst (Comes b) e r.0 in
              inr (comes-trans b (tag q p) b0 better_than h, shifted q (p ∷ ps) blocks b (all-of-block q p ps b better_than ord.0) r.1))
              among,
        )

pub first-found : (blocks : List (List (List ℤ))) (q : ℕ) → AllOrdered blocks → ((b : Best) × (first None q blocks ≡ Some b) × IsFound q blocks b) ⊎ ((first None q blocks ≡ None) × (tagged q blocks ≡ []))
unfolding first
first-found [] q ord = inr (refl, refl)
first-found ([] ∷ blocks) q ord = ⊎_elim (λ l. inl (l.0, l.1, shifted q [] blocks l.0 tt l.2)) (λ r. inr r) (first-found blocks (suc q) ord.1)
first-found ((p ∷ ps) ∷ blocks) q ord =
    let (b, is, among) = first-among blocks (suc q) (tag q p) (omega arith) ord.1 in
    inl (
      b,
      is,
      ⊎_elim
          (λ l. at-front q p ps blocks b l.0 ord.0 l.1)
          (λ r. shifted q (p ∷ ps) blocks b (all-of-block q p ps b r.0 ord.0) r.1)
          among,
    )

pub first-none : (blocks : List (List (List ℤ))) → AllOrdered blocks → first None 0 blocks ≡ None → merged blocks ≡ []
unfolding merged
first-none blocks ord none = ⊎_elim (λ l. absurd (let is = l.1 in cc)) (λ r. ap sorted r.1) (first-found blocks 0 ord)

pub first-some : (blocks : List (List (List ℤ))) (b : Best) → AllOrdered blocks → first None 0 blocks ≡ Some b → (b.rank < length blocks) × (merged blocks ≡ b ∷ merged (stepped b.rank blocks))
unfolding merged
first-some blocks b ord is = ⊎_elim (λ l. at l.0 l.1 l.2) (λ r. absurd (let none = r.0 in cc)) (first-found blocks 0 ord)
  where
    at : (x : Best) → first None 0 blocks ≡ Some x → IsFound 0 blocks x → (b.rank < length blocks) × (sorted (tagged 0 blocks) ≡ b ∷ sorted (tagged 0 (stepped b.rank blocks)))
    at x e found =
        let same : x ≡ b = (let both : Some x ≡ Some b = sym e ∙ is in cc) in
        let rank : found.index ≡ b.rank = (let r = found.rank in let t : x.rank ≡ b.rank = ap (λ (y : Best). y.rank) same in omega (arith, r, t)) in (
          let inside = found.inside in omega (arith, inside, rank),
          ap sorted found.old ∙ sorted-first found.us found.vs x found.before found.after
              ∙ ap₂ (λ (y : Best) (l : List Best). y ∷ l) same (ap sorted (sym found.new) ∙ ap (λ (k : ℕ). sorted (tagged 0 (stepped k blocks))) rank),
        )

-- the loop over the blocks

pub chosen-is : (o : Option (ArrayVec ℤ)) (list : List (List ℤ)) (best new : Option Best) (rank : ℕ) → MatchOption o (list ≡ []) (λ point. list ≡ point.items ∷ drop 1 list) → MatchOption o (new ≡ best) (λ point. new ≡ Some (better best (tag rank point.items)))
    → new ≡ pick best rank list
chosen-is None list best new rank is chosen = chosen ∙ ap (pick best rank) (sym is)
chosen-is (Some point) list best new rank is chosen = chosen ∙ ap (pick best rank) (sym is)

module _ {X : Type 0} (f : X → List (List ℤ)) where
  first-next : (xs : List X) (i q : ℕ) (x : X) (best : Option Best) → i < length xs → x ≡ get_or xs i x → first best q (drop i (map f xs)) ≡ first (pick best q (f x)) (suc q) (drop (suc i) (map f xs))
  unfolding first
  first-next [] i q x best inside is = absurd (omega arith)
  first-next (y ∷ xs) zero q x best inside is = ap (λ v. first (pick best q (f v)) (suc q) (map f xs)) (sym is)
  first-next (y ∷ xs) (suc i) q x best inside is = first-next xs i q x best (omega arith) is

  pub first-more : (xs : List X) (i : ℕ) (x : X) (best new whole : Option Best) → i < length xs → x ≡ get_or xs i x → new ≡ pick best i (f x) → first best i (drop i (map f xs)) ≡ whole → first new (i + 1) (drop (i + 1) (map f xs)) ≡ whole
  first-more xs i x best new whole inside is picked old =
      let next : i + 1 ≡ suc i = omega arith in
      ap₂ (λ (b : Option Best) (k : ℕ). first b k (drop k (map f xs))) picked next ∙ sym (first-next xs i i x best inside is) ∙ old

  pub first-end : (xs : List X) (i : ℕ) (best whole : Option Best) → length xs ≤ i → first best i (drop i (map f xs)) ≡ whole → best ≡ whole
  unfolding first
  first-end xs i best whole past old = sym (ap (first best i) (nothing xs i past)) ∙ old
    where
      nothing : (ys : List X) (k : ℕ) → length ys ≤ k → drop k (map f ys) ≡ []
      nothing [] zero h = refl
      nothing [] (suc k) h = refl
      nothing (y ∷ ys) zero h = absurd (omega arith)
      nothing (y ∷ ys) (suc k) h = nothing ys k (omega arith)

  pub stepped-is : (xs : List X) (i : ℕ) (x new : X) → i < length xs → x ≡ get_or xs i x → f new ≡ drop 1 (f x) → map f (set xs i new) ≡ stepped i (map f xs)
  stepped-is [] i x new inside is e = absurd (omega arith)
  stepped-is (y ∷ xs) zero x new inside is e = ap (λ l. l ∷ map f xs) (e ∙ ap (λ v. drop 1 (f v)) is)
  stepped-is (y ∷ xs) (suc i) x new inside is e = ap (λ l. f y ∷ l) (stepped-is xs i x new (omega arith) is e)

  pub length-map : (xs : List X) → length (map f xs) ≡ length xs
  length-map [] = refl
  length-map (x ∷ xs) = ap suc (length-map xs)

module _ {X : Type 0} (P : X → Type 0) where
  pub all-at : (xs : List X) (i : ℕ) (x : X) → AllByRecursion P xs → i < length xs → x ≡ get_or xs i x → P x
  all-at [] i x all inside is = absurd (omega arith)
  all-at (y ∷ xs) zero x all inside is = subst P (sym is) all.0
  all-at (y ∷ xs) (suc i) x all inside is = all-at xs i x all.1 (omega arith) is

  pub all-set : (xs : List X) (i : ℕ) (new : X) → AllByRecursion P xs → P new → AllByRecursion P (set xs i new)
  all-set [] i new all h = tt
  all-set (y ∷ xs) zero new all h = (h, all.1)
  all-set (y ∷ xs) (suc i) new all h = (all.0, all-set xs i new all.1 h)

ordered-drop : (l : List (List ℤ)) → Ordered Precedes l → Ordered Precedes (drop 1 l)
ordered-drop [] ord = ord
ordered-drop (x ∷ xs) ord = ord.1

pub stepped-ordered : (blocks : List (List (List ℤ))) (i : ℕ) → AllOrdered blocks → AllOrdered (stepped i blocks)
stepped-ordered [] i ord = ord
stepped-ordered (l ∷ blocks) zero ord = (ordered-drop l ord.0, ord.1)
stepped-ordered (l ∷ blocks) (suc i) ord = (ord.0, stepped-ordered blocks i ord.1)

-- the merged list is in order

abbrev apart : Best → Best → Type 0
apart x y = by_place x y ≡ Equal → ⊥

comes-apart : (x y : Best) → Comes x y → apart x y
comes-apart x y h e = cc

put-ordered : (x : Best) (ys : List Best) → AllByRecursion (apart x) ys → Ordered Comes ys → Ordered Comes (put x ys)
put-ordered x [] all ord = (tt, tt)
put-ordered x (y ∷ ys) all ord = at (by_place y x) refl (put-ordered x ys all.1 ord.1)
  where
    at : (o : Ordering) → by_place y x ≡ o → Ordered Comes (put x ys) → Ordered Comes (if is_lt o then y ∷ put x ys else x ∷ y ∷ ys)
    at Less e more = (all-from (Comes y) (put x ys) (λ z h. ⊎_elim (λ is. subst (Comes y) (sym is) e) (λ k. all-has (Comes y) ys z ord.0 k) (has-put x ys z h)), more)
    at Equal e more = absurd (all.0 (by-place-total.antisymm x y ∙ ap ordering_reverse e))
    at Greater e more = let below : Comes x y = by-place-total.antisymm x y ∙ ap ordering_reverse e in
        ((below, all-from (Comes x) ys (λ z h. comes-trans x y z below (all-has (Comes y) ys z ord.0 h))), ord)

put-has : (x : Best) (ys : List Best) (z : Best) → (z ≡ x) ⊎ Has ys z → Has (put x ys) z
put-has x [] z h = h
put-has x (y ∷ ys) z h = at (is_lt (by_place y x)) h (put-has x ys z)
  where
    at : (b : Bool) → (z ≡ x) ⊎ Has (y ∷ ys) z → ((z ≡ x) ⊎ Has ys z → Has (put x ys) z) → Has (if b then y ∷ put x ys else x ∷ y ∷ ys) z
    at true (inl e) more = inr (more (inl e))
    at true (inr (inl e)) more = inl e
    at true (inr (inr k)) more = inr (more (inr k))
    at false k more = k

sorted-has : (xs : List Best) (z : Best) → Has xs z → Has (sorted xs) z
sorted-has [] z h = h
sorted-has (x ∷ xs) z h = put-has x (sorted xs) z (⊎_elim (λ e. inl e) (λ k. inr (sorted-has xs z k)) h)

sorted-ordered : (xs : List Best) → Ordered apart xs → Ordered Comes (sorted xs)
sorted-ordered [] ord = tt
sorted-ordered (x ∷ xs) ord = put-ordered x (sorted xs) (all-from (apart x) (sorted xs) (λ z h. all-has (apart x) xs z ord.0 (has-sorted xs z h))) (sorted-ordered xs ord.1)

ranks-apart : (m n : ℕ) → m < n → nat_cmp m n ≡ Equal → ⊥
ranks-apart m n h e = let less = rank-less m n h in cc

-- points of blocks with other ranks differ
later-ranks : (blocks : List (List (List ℤ))) (q r : ℕ) (p : List ℤ) → q < r → AllByRecursion (apart (tag q p)) (tagged r blocks)
later-ranks [] q r p h = tt
later-ranks (ps ∷ blocks) q r p h = all-append (apart (tag q p)) (map (tag r) ps) (tagged (suc r) blocks) (of-block ps) (later-ranks blocks q (suc r) p (omega arith))
  where
    both-equal : (a b : Ordering) → ordering_then a b ≡ Equal → b ≡ Equal
    both-equal Less b e = absurd (let f : Less ≡ Equal = e in cc)
    both-equal Equal b e = e
    both-equal Greater b e = absurd (let f : Greater ≡ Equal = e in cc)

    of-block : (ps : List (List ℤ)) → AllByRecursion (apart (tag q p)) (map (tag r) ps)
    of-block [] = tt
    of-block (x ∷ ps) = (λ e. ranks-apart q r h (both-equal (slice_cmp int_cmp p x) (nat_cmp q r) e), of-block ps)

block-apart : (q : ℕ) (blocks : List (List (List ℤ))) (ps : List (List ℤ)) → Ordered Precedes ps → Ordered apart (tagged (suc q) blocks) → Ordered apart (map (tag q) ps ++ tagged (suc q) blocks)
block-apart q blocks [] o rest = rest
block-apart q blocks (p ∷ ps) o rest = (
  all-append (apart (tag q p)) (map (tag q) ps) (tagged (suc q) blocks) (weaker (map (tag q) ps) (tag-all q p ps o.0)) (later-ranks blocks q (suc q) p (omega arith)),
  block-apart q blocks ps o.1 rest,
)
  where
    weaker : (l : List Best) → AllByRecursion (Comes (tag q p)) l → AllByRecursion (apart (tag q p)) l
    weaker [] all = tt
    weaker (x ∷ l) all = (comes-apart (tag q p) x all.0, weaker l all.1)

tagged-apart : (blocks : List (List (List ℤ))) (q : ℕ) → AllOrdered blocks → Ordered apart (tagged q blocks)
tagged-apart [] q ord = tt
tagged-apart (ps ∷ blocks) q ord = block-apart q blocks ps ord.0 (tagged-apart blocks (suc q) ord.1)

pub blocks-merged : (blocks : List (List (List ℤ))) → AllOrdered blocks → IsMerged blocks (merged blocks)
unfolding merged
blocks-merged blocks ord = record {
  ordered = sorted-ordered (tagged 0 blocks) (tagged-apart blocks 0 ord);
  same = λ best. (has-sorted (tagged 0 blocks) best, sorted-has (tagged 0 blocks) best);
}
