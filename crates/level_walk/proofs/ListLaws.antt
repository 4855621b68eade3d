-- Points that are listed in another order.
use Rattle.std.proofs.Common.{◌≡◌, ◌<◌, ◌≤◌, ◌+◌, ℕ, zero, suc, ℤ, Bool, true, false, List, [], ◌∷◌, map, length, drop, get_or, refl, sym, ap, subst, ◌∙◌, inl, inr, ⊎_elim, int_cmp, is_lt, arith}
use Rattle.std.specs.Prelude.{if◌then◌else◌, Option, Some, None, IfSome, MatchOption, is_some}
use Rattle.std.specs.List.{AllByRecursion}
use Rattle.std.specs.Cmp.Lexicographic.{slice_cmp}
use Rattle.std.proofs.lemmas.List.{drop_more}
use Rattle.arrayvec.specs.ArrayVec.{ArrayVec}
use Rattle.orders.specs.Orders.{Ordered}
use Rattle.plain_lemmas.specs.Lists.{Has}
use Rattle.orders.proofs.ListLaws.{ordered-weaker}
use Rattle.std.proofs.lemmas.Cmp.{int_cmp_total, lists_total, tied_itself}
use Rattle.level_walk.specs.Orders.{Precedes}
use Rattle.level_walk.specs.Lattices.{in_box}
use Rattle.level_walk.specs.Listed.{AllDiffer, is_after, least_after, left_after, lesser, put_point}
use Rattle.plain_lemmas.proofs.MembershipLaws.{all-from, all-has}
use Rattle.level_walk.proofs.LeastOfListLaws.{least-is, least-is-next}
use Rattle.level_walk.specs.Listings.{IsListing, after_head, items_of, listed_in}

pub head-listed : (o : Option (ArrayVec ℤ)) (list : List (List ℤ)) → MatchOption o (after_head o list ≡ []) (λ point. after_head o list ≡ point.items ∷ drop 1 (after_head o list))
head-listed None list = refl
head-listed (Some point) list = refl

-- the points in the box are among the points
pub from-listed : (lows highs : List ℤ) (ps : List (ArrayVec ℤ)) (z : List ℤ) → Has (listed_in lows highs ps) z → Has (map (λ p. p.items) ps) z
from-listed lows highs [] z h = h
from-listed lows highs (p ∷ ps) z h = at (in_box lows highs p.items) h (λ k. from-listed lows highs ps z k)
  where
    at : (b : Bool) → Has (if b then p.items ∷ listed_in lows highs ps else listed_in lows highs ps) z → (Has (listed_in lows highs ps) z → Has (map (λ p. p.items) ps) z) → Has (p.items ∷ map (λ p. p.items) ps) z
    at true (inl e) more = inl e
    at true (inr k) more = inr (more k)
    at false k more = inr (more k)

pub differ-in : (lows highs : List ℤ) (ps : List (ArrayVec ℤ)) → AllDiffer (map (λ p. p.items) ps) → AllDiffer (listed_in lows highs ps)
differ-in lows highs [] differ = tt
differ-in lows highs (p ∷ ps) differ = at (in_box lows highs p.items) (differ-in lows highs ps differ.1)
  where
    at : (b : Bool) → AllDiffer (listed_in lows highs ps) → AllDiffer (if b then p.items ∷ listed_in lows highs ps else listed_in lows highs ps)
    at true more = (all-from (λ y. p.items ≡ y → ⊥) (listed_in lows highs ps) (λ z h. all-has (λ y. p.items ≡ y → ⊥) (map (λ p. p.items) ps) z differ.0 (from-listed lows highs ps z h)), more)
    at false more = more

-- points in order differ
pub never-itself : (x : List ℤ) → Precedes x x → ⊥
never-itself x h = let t = tied_itself (lists_total int_cmp_total) x in cc

pub differ-from : (list : List (List ℤ)) → Ordered Precedes list → AllDiffer list
differ-from list o = ordered-weaker Precedes (λ x y. x ≡ y → ⊥) (λ x y h e. never-itself x (subst (λ (z : List ℤ). Precedes x z) (sym e) h)) list o

-- where there is no least, nothing is left
lesser-some : (o : Option (List ℤ)) (x : List ℤ) → (b : List ℤ) × (lesser o x ≡ Some b)
lesser-some None x = (x, refl)
lesser-some (Some b) x = at (is_lt (slice_cmp int_cmp x b))
  where
    at : (t : Bool) → (c : List ℤ) × ((if t then Some x else Some b) ≡ Some c)
    at true = (x, refl)
    at false = (b, refl)

never-none : (last : Option (List ℤ)) (b : List ℤ) (list : List (List ℤ)) → least_after last (Some b) list ≡ None → ⊥
unfolding least_after
never-none last b [] is = absurd (let wrong : Some b ≡ None = is in cc)
never-none last b (x ∷ xs) is = at (is_after last x) (lesser-some (Some b) x) is (λ c e. never-none last c xs e)
  where
    at : (t : Bool) → ((c : List ℤ) × (lesser (Some b) x ≡ Some c)) → least_after last (if t then lesser (Some b) x else Some b) xs ≡ None → ((c : List ℤ) → least_after last (Some c) xs ≡ None → ⊥) → ⊥
    at true (c, f) e more = more c (sym (ap (λ (o : Option (List ℤ)). least_after last o xs) f) ∙ e)
    at false other e more = more b e

pub left-none : (last : Option (List ℤ)) (list : List (List ℤ)) → least_after last None list ≡ None → left_after last list ≡ []
unfolding least_after left_after
left-none last [] is = refl
left-none last (x ∷ xs) is = at (is_after last x) is (λ e. left-none last xs e)
  where
    at : (t : Bool) → least_after last (if t then lesser None x else None) xs ≡ None → (least_after last None xs ≡ None → left_after last xs ≡ []) → (if t then put_point x (left_after last xs) else left_after last xs) ≡ []
    at true e more = absurd (never-none last x xs e)
    at false e more = more e

pub next-head : (last : Option (List ℤ)) (list : List (List ℤ)) (o : Option (ArrayVec ℤ)) → AllDiffer list → items_of o ≡ least_after last None list → after_head o list ≡ left_after last list
next-head last list None differ is = sym (left-none last list (sym is))
next-head last list (Some point) differ is = sym (least-is-next last list point.items differ (sym is))

pub long-listed : (n : ℕ) (ps : List (ArrayVec ℤ)) (z : List ℤ) → AllByRecursion (λ point. length point.items ≡ n) ps → Has (map (λ p. p.items) ps) z → length z ≡ n
long-listed n [] z all h = absurd h
long-listed n (p ∷ ps) z all (inl e) = ap length e ∙ all.0
long-listed n (p ∷ ps) z all (inr h) = long-listed n ps z all.1 h

pub found-long : (n : ℕ) (lows highs : List ℤ) (ps : List (ArrayVec ℤ)) (last : Option (List ℤ)) (o : Option (ArrayVec ℤ)) → IsListing n ps → items_of o ≡ least_after last None (listed_in lows highs ps) → IfSome o (λ point. (0 < length point.items) × (length point.items ≤ 6))
found-long n lows highs ps last None is e = tt
found-long n lows highs ps last (Some point) is e =
    let least = least-is last None (listed_in lows highs ps) point.items (sym e) in
    let has : Has (listed_in lows highs ps) point.items = ⊎_elim (λ f. absurd (let wrong : None ≡ Some point.items = f in cc)) (λ h. h.0) least.from in
    let long = long-listed n ps point.items is.long (from-listed lows highs ps point.items has) in
    let some = is.some in
    let few = is.few in
    (omega (arith, long, some), omega (arith, long, few))

-- the loop over the points
listed-more : (lows highs : List ℤ) (ps : List (ArrayVec ℤ)) (i : ℕ) (p : ArrayVec ℤ) → i < length ps → p ≡ get_or ps i p → listed_in lows highs (drop i ps) ≡ (if in_box lows highs p.items then p.items ∷ listed_in lows highs (drop (i + 1) ps) else listed_in lows highs (drop (i + 1) ps))
listed-more lows highs ps i p inside is = ap (listed_in lows highs) (drop_more ps i p inside ∙ ap (λ (q : ArrayVec ℤ). q ∷ drop (i + 1) ps) (sym is))

pub taken : (lows highs : List ℤ) (ps : List (ArrayVec ℤ)) (i : ℕ) (p : ArrayVec ℤ) (last best new whole : Option (List ℤ)) → i < length ps → p ≡ get_or ps i p → in_box lows highs p.items ≡ true
    → new ≡ (if is_after last p.items then lesser best p.items else best) → least_after last best (listed_in lows highs (drop i ps)) ≡ whole → least_after last new (listed_in lows highs (drop (i + 1) ps)) ≡ whole
unfolding least_after
taken lows highs ps i p last best new whole inside is box e old =
    let rest = listed_in lows highs (drop (i + 1) ps) in
    let more : listed_in lows highs (drop i ps) ≡ p.items ∷ rest = listed-more lows highs ps i p inside is ∙ ap (λ (b : Bool). if b then p.items ∷ rest else rest) box in
    ap (λ (o : Option (List ℤ)). least_after last o rest) e ∙ sym (ap (least_after last best) more) ∙ old

pub passed : (lows highs : List ℤ) (ps : List (ArrayVec ℤ)) (i : ℕ) (p : ArrayVec ℤ) (last best whole : Option (List ℤ)) → i < length ps → p ≡ get_or ps i p → in_box lows highs p.items ≡ false
    → least_after last best (listed_in lows highs (drop i ps)) ≡ whole → least_after last best (listed_in lows highs (drop (i + 1) ps)) ≡ whole
passed lows highs ps i p last best whole inside is box old =
    let rest = listed_in lows highs (drop (i + 1) ps) in
    let more : listed_in lows highs (drop i ps) ≡ rest = listed-more lows highs ps i p inside is ∙ ap (λ (b : Bool). if b then p.items ∷ rest else rest) box in
    sym (ap (least_after last best) more) ∙ old

pub listed-end : (lows highs : List ℤ) (ps : List (ArrayVec ℤ)) (i : ℕ) (last best whole : Option (List ℤ)) → length ps ≤ i → least_after last best (listed_in lows highs (drop i ps)) ≡ whole → best ≡ whole
unfolding least_after
listed-end lows highs ps i last best whole past old = sym (ap (λ (l : List (ArrayVec ℤ)). least_after last best (listed_in lows highs l)) (nothing ps i past)) ∙ old
  where
    nothing : (ys : List (ArrayVec ℤ)) (k : ℕ) → length ys ≤ k → drop k ys ≡ []
    nothing [] zero h = refl
    nothing [] (suc k) h = refl
    nothing (y ∷ ys) zero h = absurd (omega arith)
    nothing (y ∷ ys) (suc k) h = nothing ys k (omega arith)

pub moved-head : (lows highs : List ℤ) (n : ℕ) (ps : List (ArrayVec ℤ)) (last found old new : Option (ArrayVec ℤ)) → IsListing n ps → is_some last ≡ true → last ≡ old → new ≡ found
    → items_of found ≡ least_after (items_of last) None (listed_in lows highs ps) → after_head new (listed_in lows highs ps) ≡ drop 1 (after_head old (listed_in lows highs ps))
moved-head lows highs n ps None found old new is some e f g = absurd (let wrong : false ≡ true = some in cc)
moved-head lows highs n ps (Some point) found old new is some e f g =
    ap (λ (o : Option (ArrayVec ℤ)). after_head o (listed_in lows highs ps)) f
    ∙ next-head (Some point.items) (listed_in lows highs ps) found (differ-in lows highs ps (differ-from (map (λ p. p.items) ps) is.ordered)) g
    ∙ ap (λ (o : Option (ArrayVec ℤ)). drop 1 (after_head o (listed_in lows highs ps))) e
