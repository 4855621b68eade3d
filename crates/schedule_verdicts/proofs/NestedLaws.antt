-- Nests whose statements are all in the innermost loop have tables.
use Rattle.std.proofs.Common.{◌≡◌, refl, sym, ap, ap₂, ◌∙◌, subst, ℕ, zero, suc, ◌<◌, ◌≤◌, ◌+◌, ◌-◌, ◌⊎◌, inl, inr, ⊎_elim, true, false, nat_eq, List, [], ◌∷◌, ◌++◌, map, length, length-append, get_or, Option, lit≤, arith}
use Rattle.std.specs.Prelude.{is_some}
use Rattle.std.specs.List.{All, range_with_len}
use Rattle.std.proofs.Math.Seq.{get_or-append_seam}
use Rattle.std.proofs.lemmas.Bool.Decides.{nat_tests}
use Rattle.std.proofs.lemmas.List.{get_or_append_left}
use Rattle.std.proofs.lemmas.List.FromFn.{get_or-map-range_with_len, length-map-range_with_len, map-range_with_len_more}
use Rattle.affine.specs.Forms.{Affine}
use Rattle.plain_lemmas.proofs.MembershipLaws.{All-has}
use Rattle.plain_lemmas.specs.Lists.{Has}
use Rattle.nest_lang.specs.declared.tree.Part.TheVariants.{Head, Pre}
use Rattle.domain.specs.declared.table.LoopKind.{LoopKind}
use Rattle.domain.specs.Tables.{Access, Block, IsBlock, IsTable, Level, Reaches, Table, block_at, is_block, level_at, no_block, is_while, no_level, rank_of, repeats, stride_size, text_place}
use Rattle.domain.proofs.TableLaws.{position-found, position-none}
use Rattle.schedule_verdicts.specs.Nests.{IsCounted, head, innermost, nested}

-- the loop inside some others is one of the list, or there is none
level-cases : (levels : List Level) (k : ℕ) → (get_or levels k no_level ≡ no_level) ⊎ Has levels (get_or levels k no_level)
level-cases [] k = inl refl
level-cases (l ∷ levels) zero = inr (inl refl)
level-cases (l ∷ levels) (suc k) = ⊎_elim (λ e. inl e) (λ h. inr (inr h)) (level-cases levels k)

counted-stride : (l : Level) → IsCounted l → stride_size l.kind ≤ 1
counted-stride l c = rw (c.kind) (lit≤ tt)

counted-reach : (l : Level) → IsCounted l → Reaches (stride_size l.kind) l.trip
counted-reach l c = subst (λ (kind : LoopKind). Reaches (stride_size kind) l.trip) (sym c.kind) c.reach

first-counts : (levels : List Level) → 1 ≤ length levels → All IsCounted levels → repeats (record { levels = levels; blocks = [] }) 0 ≡ false
first-counts [] some all = absurd (omega arith)
first-counts (l ∷ levels) some all = ap is_while (All-has IsCounted (l ∷ levels) l all (inl refl)).kind

module _ (D : ℕ) (levels : List Level) (accesses : List Access) where
  abbrev t : Table
  t = nested D levels accesses

  strides : All IsCounted levels → (k : ℕ) → stride_size (level_at t k).kind ≤ 1
  strides all k = ⊎_elim (λ e. subst (λ (l : Level). stride_size l.kind ≤ 1) (sym e) (lit≤ tt)) (λ h. counted-stride (level_at t k) (All-has IsCounted levels (level_at t k) all h)) (level-cases levels k)

  reach : All IsCounted levels → (k : ℕ) → Reaches (stride_size (level_at t k).kind) (level_at t k).trip
  reach all k = ⊎_elim (λ e. subst (λ (l : Level). Reaches (stride_size l.kind) l.trip) (sym e) tt) (λ h. counted-reach (level_at t k) (All-has IsCounted levels (level_at t k) all h)) (level-cases levels k)

  -- ---- blocks

  module _ (some : 1 ≤ D) where
    heads-length : length (map head (range_with_len 2 (D - 1))) ≡ D - 1
    heads-length = length-map-range_with_len head 2 (D - 1)

    count : length t.blocks ≡ D
    count = length-append (map head (range_with_len 2 (D - 1))) (innermost D accesses ∷ []) ∙ (let h = heads-length in omega arith)

    head-at : (rank : ℕ) → rank + 1 < D → block_at t rank ≡ head (rank + 2)
    head-at rank l =
        get_or_append_left (map head (range_with_len 2 (D - 1))) (innermost D accesses ∷ []) no_block rank (let h = heads-length in omega arith)
        ∙ get_or-map-range_with_len head 2 (D - 1) rank (rank + 2) no_block (omega arith) (omega arith)

    last-at : (rank : ℕ) → rank + 1 ≡ D → block_at t rank ≡ innermost D accesses
    last-at rank e =
        let h = heads-length in
        let here : length (map head (range_with_len 2 (D - 1))) ≡ rank = omega arith in
        subst (λ n. block_at t n ≡ innermost D accesses) here (get_or-append_seam (map head (range_with_len 2 (D - 1))) (innermost D accesses) [] no_block)

    -- each block is a head or the last one
    block-cases : (rank : ℕ) → rank < D → (rank + 1 < D) ⊎ (rank + 1 ≡ D)
    block-cases rank l = grind arith

    blocks : length accesses ≤ 64 → (rank : ℕ) → rank < length t.blocks → IsBlock D (block_at t rank)
    blocks short rank l = ⊎_elim at-head at-last (block-cases rank (let c = count in omega arith))
      where
        at-head : rank + 1 < D → IsBlock D (block_at t rank)
        at-head m = subst (IsBlock D) (sym (head-at rank m)) (record { from = omega arith; to = omega arith; scalars = lit≤ tt; accesses = lit≤ tt; outer = λ e. absurd (cc) })

        at-last : rank + 1 ≡ D → IsBlock D (block_at t rank)
        at-last m = subst (IsBlock D) (sym (last-at rank m)) (record { from = some; to = omega arith; scalars = lit≤ tt; accesses = short; outer = λ e. absurd (cc) })

    place-head : (rank : ℕ) → rank + 1 < D → text_place D (block_at t rank) ≡ rank + 2 + (rank + 2)
    place-head rank m = ap (text_place D) (head-at rank m)

    place-last : (rank : ℕ) → rank + 1 ≡ D → text_place D (block_at t rank) ≡ D + D + 1
    place-last rank m = ap (text_place D) (last-at rank m)

    rising : (i j : ℕ) → i < j → j < length t.blocks → text_place D (block_at t i) < text_place D (block_at t j)
    rising i j l m =
        let c = count in
        let here = place-head i (omega arith) in
        ⊎_elim (λ (h : j + 1 < D). let there = place-head j h in omega arith) (λ (h : j + 1 ≡ D). let there = place-last j h in omega arith) (block-cases j (omega arith))

    -- ---- ranks

    not-head : (level rank : ℕ) → rank + 1 ≡ D → is_block Head level (block_at t rank) ≡ false
    not-head level rank e = ap (is_block Head level) (last-at rank e)

    other-head : (level rank : ℕ) → rank + 1 < D → rank + 2 < level ⊎ level < rank + 2 → is_block Head level (block_at t rank) ≡ false
    other-head level rank l h = ap (is_block Head level) (head-at rank l) ∙ (let e : nat_eq (rank + 2) level ≡ false = ⊎_elim (λ k. grind (arith, nat_tests)) (λ k. grind (arith, nat_tests)) h in rw e refl)

    head-found : (level : ℕ) → 2 ≤ level → level ≤ D → is_some (rank_of t Head level) ≡ true
    head-found level l m =
        let c = count in
        let at : level - 2 + 2 ≡ level = omega arith in
        let same : nat_eq (level - 2 + 2) level ≡ true = grind (arith, nat_tests) in
        let here : is_block Head level (block_at t (level - 2)) ≡ true = ap (is_block Head level) (head-at (level - 2) (omega arith)) ∙ (rw same refl) in
        ap is_some (position-found (is_block Head level) t.blocks no_block (level - 2) (omega arith) (λ j b. other-head level j (omega arith) (inl (omega arith))) here)

    outermost-absent : is_some (rank_of t Head 1) ≡ false
    outermost-absent =
        let c = count in
        ap is_some (position-none (is_block Head 1) t.blocks no_block D (omega arith) (λ j b. ⊎_elim (λ (h : j + 1 < D). other-head 1 j h (inr (omega arith))) (λ (h : j + 1 ≡ D). not-head 1 j h) (block-cases j b)))

    body-found : is_some (rank_of t Pre D) ≡ true
    body-found =
        let c = count in
        let same : nat_eq D D ≡ true = grind (arith, nat_tests) in
        let here : is_block Pre D (block_at t (D - 1)) ≡ true = ap (is_block Pre D) (last-at (D - 1) (omega arith)) ∙ (rw same refl) in
        ap is_some (position-found (is_block Pre D) t.blocks no_block (D - 1) (omega arith) (λ j b. ap (is_block Pre D) (head-at j (omega arith))) here)

pub nested-is : (D : ℕ) (levels : List Level) (accesses : List Access) → 1 ≤ D → D < 7 → length levels ≡ D → All IsCounted levels → length accesses ≤ 64 → IsTable D (nested D levels accesses)
nested-is D levels accesses some few long all short =
    let c = count D levels accesses some in
    record {
      deep = long;
      some = some;
      few = omega arith;
      short = omega arith;
      blocks = blocks D levels accesses some short;
      rising = rising D levels accesses some;
      heads = head-found D levels accesses some;
      outermost = outermost-absent D levels accesses some ∙ sym (first-counts levels (omega arith) all);
      body = body-found D levels accesses some;
      strides = λ k. let s = strides D levels accesses all k in omega arith;
      reach = reach D levels accesses all;
    }

-- one more head
pub more-heads : (level : ℕ) (before after : List Block) (scalars : List (Option Affine)) (accesses : List Access) → scalars ≡ [] → accesses ≡ [] → 2 ≤ level
    → before ≡ map head (range_with_len 2 (level - 2)) → after ≡ before ++ record { part = Head; level = level; scalars = scalars; accesses = accesses } ∷ [] → after ≡ map head (range_with_len 2 (level + 1 - 2))
more-heads level before after scalars accesses s a from e g =
    let next : level + 1 - 2 ≡ level - 2 + 1 = omega arith in
    g
    ∙ ap₂ (λ (ss : List (Option Affine)) (as' : List Access). before ++ record { part = Head; level = level; scalars = ss; accesses = as' } ∷ []) s a
    ∙ ap (λ (bs : List Block). bs ++ head level ∷ []) e
    ∙ sym (ap (λ n. map head (range_with_len 2 n)) next ∙ map-range_with_len_more head 2 (level - 2) level (omega arith))
