-- Counts: a chunk has one list of the numbers of its phases' tiles.
use Rattle.std.proofs.Common.{◌≡◌, refl, sym, ap, ap₂, ◌∙◌, subst, ℕ, suc, ◌+◌, ◌≤◌, inl, inr, ⊎_elim, ℤ, List, [], ◌∷◌, ◌++◌, length, length-append, arith, int_cmp}
use Rattle.std.specs.Cmp.Lexicographic.{slice_cmp}
use Rattle.std.proofs.lemmas.Cmp.{lists_total, int_cmp_total}
use Rattle.orders.specs.Orders.{Ordered, Differ}
use Rattle.plain_lemmas.specs.Lists.{Has}
use Rattle.orders.proofs.ListLaws.{has-split}
use Rattle.plain_lemmas.proofs.MembershipLaws.{all-has, has-cases, has-left, has-right}
use Rattle.orders.proofs.SortLaws.{ordering-unique, never-both}
use Rattle.skeletons.specs.Cells.{Extent}
use Rattle.tiles.specs.Plans.{KeyLess}
use Rattle.chunk_run.specs.Groups.{HasTiles, HaveTiles, OneTileCounts}

-- a list in which nothing stands twice is no longer than one that has all of its elements
pub fewer : {X : Type 0} (xs ys : List X) → Ordered Differ xs → ((x : X) → Has xs x → Has ys x) → length xs ≤ length ys
fewer [] ys once there = omega arith
fewer {X} (x ∷ xs) ys once there =
    let split = has-split ys x (there x (inl refl)) in
    let us = split.0 in
    let vs = split.1 in
    let rest = fewer xs (us ++ vs) once.1 (λ z h. without us vs z (subst (λ (l : List X). Has l z) split.2 (there z (inr h))) (all-has (Differ x) xs z once.0 h)) in
    let size : length ys ≡ length us + suc (length vs) = ap (λ (l : List X). length l) split.2 ∙ length-append us (x ∷ vs) in
    let less : length (us ++ vs) ≡ length us + length vs = length-append us vs in
    omega (arith, rest, size, less)
  where
    without : (us vs : List X) (z : X) → Has (us ++ x ∷ vs) z → (x ≡ z → ⊥) → Has (us ++ vs) z
    without us vs z h other = ⊎_elim (λ k. has-left us vs z k) (λ k. ⊎_elim (λ e. absurd (other (sym e))) (λ l. has-right us vs z l) k) (has-cases us (x ∷ vs) z h)

one-count : (e : Extent) (key : List ℤ) (count other : ℕ) → HasTiles e key count → HasTiles e key other → count ≡ other
one-count e key count other f g =
    let there = fewer f.cells g.cells f.are.once (λ cell h. (g.are.has cell).1 ((f.are.has cell).0 h)) in
    let back = fewer g.cells f.cells g.are.once (λ cell h. (f.are.has cell).1 ((g.are.has cell).0 h)) in
    let m = f.many in
    let n = g.many in
    omega (arith, there, back, m, n)

one-list : (e : Extent) (keys : List (List ℤ)) (counts others : List ℕ) → HaveTiles e keys counts → HaveTiles e keys others → counts ≡ others
one-list e [] [] [] f g = refl
one-list e [] [] (n ∷ others) f g = absurd g
one-list e [] (n ∷ counts) others f g = absurd f
one-list e (key ∷ keys) [] others f g = absurd f
one-list e (key ∷ keys) (n ∷ counts) [] f g = absurd g
one-list e (key ∷ keys) (n ∷ counts) (m ∷ others) f g = ap₂ (λ (z : ℕ) (zs : List ℕ). z ∷ zs) (one-count e key n m f.0 g.0) (one-list e keys counts others f.1 g.1)

pub one-tile-counts : OneTileCounts
one-tile-counts e counts others f g =
    let keys : f.keys ≡ g.keys = ordering-unique KeyLess (never-both (slice_cmp int_cmp) (lists_total int_cmp_total) (λ (key : List ℤ). key)) f.keys g.keys f.rise g.rise (record {
      there = λ key h. (g.are.has key).1 ((f.are.has key).0 h);
      back = λ key h. (f.are.has key).1 ((g.are.has key).0 h);
    }) in
    one-list e g.keys counts others (subst (λ (ks : List (List ℤ)). HaveTiles e ks counts) keys f.each) g.each
