-- The fit of a nest, from the fits of its blocks and the bounds of its loops.
use Rattle.std.proofs.Common.{◌≡◌, refl, sym, ap, subst, ◌∙◌, ℕ, zero, suc, ◌+◌, ◌<◌, ◌≤◌, ◌^◌, ◌⊎◌, inl, inr, pos, Bool, true, false, nat_lt, List, [], ◌∷◌, ◌++◌, length, map, get_or, slice_get, length-append, Option, Some, None, arith}
use Rattle.std.specs.Prelude.{option_and_then}
use Rattle.std.specs.List.{All, range_with_len}
use Rattle.std.proofs.Math.Seq.{get_or-append_seam}
use Rattle.std.proofs.lemmas.Bool.Decides.{nat_tests}
use Rattle.std.proofs.lemmas.List.{get_or_append_left}
use Rattle.std.proofs.lemmas.List.Elements.{All-append, All-cons, All-from_get_or, All-map, All-nil}
use Rattle.std.proofs.lemmas.List.FromFn.{get_or-range_with_len, length-range_with_len}
use Rattle.std.proofs.lemmas.Option.{get_or_from_slice_get, slice_get_within, slice_get-get_or}
use Rattle.nest_lang.specs.declared.tree.BlockRef.{BlockRef}
use Rattle.nest_lang.specs.declared.tree.Loop.{Loop}
use Rattle.nest_lang.specs.declared.tree.Part.{Part}
use Rattle.nest_lang.specs.declared.tree.Part.TheVariants.{Head}
use Rattle.nest_lang.specs.Accesses.{accesses_of}
use Rattle.nest_lang.specs.Blocks.{block_ref, present_blocks, rank_of}
use Rattle.nest_lang.specs.Traces.{Observation}
use Rattle.nest_lang.proofs.RankLaws.{ranks-are-numbers, present_blocks-have-ranks}
use Rattle.line_fit.specs.Lines.{Tube}
use Rattle.domain.specs.declared.prediction.What.{What}
use Rattle.domain.specs.declared.prediction.What.TheVariants.{Scalar, Address, Lower, Trip}
use Rattle.domain.specs.declared.table.LoopKind.{LoopKind}
use Rattle.domain.specs.Tables.{Table, Block, Access, Level, Reaches, access_at, head_level, head_level_by, level_at, loop_of, no_block, no_level, stride_size}
use Rattle.domain.specs.Shapes.{kind_of}
use Rattle.profile.specs.declared.unfit.FitEnd.{FitEnd}
use Rattle.profile.specs.declared.unfit.FitEnd.TheVariants as end
use Rattle.profile.specs.Data.{bounds_of, data_of, tube_about, tube_in, tube_of_access}
use Rattle.profile.specs.Fits.{HasFitAt, HasNarrowTube, IsFitEnd, IsFitOf, IsUnfitIn}
use Rattle.profile.specs.Parts.{AreBlockFits, AreLevels, IsBlockFit, IsEndIn, LoopBounds, StayWithinReach, level_with, no_bounds, own_bounds}
use Rattle.profile.proofs.EndLaws.{slice_get-either, slice_get-left, slice_get-right}
use Rattle.profile.proofs.FitPartLaws.{accesses-count, bounds-cases, bounds-two, data-fit}

less-cases : (k n : ℕ) → k < n + 1 → (k < n) ⊎ (k ≡ n)
less-cases k n h = grind arith

beyond : {X : Type 0} (xs : List X) (k : ℕ) (d : X) → length xs ≤ k → get_or xs k d ≡ d
beyond [] k d h = refl
beyond (x ∷ xs) zero d h = absurd (omega arith)
beyond (x ∷ xs) (suc k) d h = beyond xs k d (omega arith)

past : (k : ℕ) (xs : List Loop) → slice_get xs k ≡ None → k < length xs → ⊥
past k [] e h = omega arith
past zero (x ∷ xs) e h = cc
past (suc k) (x ∷ xs) e h = past k xs e (omega arith)

module _ (D scalars : ℕ) (loops : List Loop) (observations : List Observation) where
  abbrev Fits : BlockRef → Block → LoopBounds → Type 0
  Fits block b bounds = IsBlockFit D scalars loops observations block b bounds

  -- one more block
  pub more-block : (n : ℕ) (blocks grown : List Block) (bounds wider : List LoopBounds) (block : BlockRef) (b : Block) (own : LoopBounds) → AreBlockFits D scalars loops observations n blocks bounds
      → slice_get (present_blocks loops) n ≡ Some block → Fits block b own → grown ≡ blocks ++ b ∷ [] → wider ≡ bounds ++ own ∷ [] → AreBlockFits D scalars loops observations (n + 1) grown wider
  more-block n blocks grown bounds wider block b own fits at fit is are = record {
    count = ap (λ (xs : List Block). length xs) is ∙ length-append blocks (b ∷ []) ∙ ap (λ (m : ℕ). m + 1) fits.count;
    count_bounds = ap (λ (xs : List LoopBounds). length xs) are ∙ length-append bounds (own ∷ []) ∙ ap (λ (m : ℕ). m + 1) fits.count_bounds;
    each = λ rank other l e. whole rank other e (less-cases rank n l);
  }
    where
      whole : (rank : ℕ) (other : BlockRef) → slice_get (present_blocks loops) rank ≡ Some other → (rank < n) ⊎ (rank ≡ n) → Fits other (get_or grown rank no_block) (get_or wider rank no_bounds)
      whole rank other e (inl l) =
          let old = fits.each rank other l e in
          let one : get_or grown rank no_block ≡ get_or blocks rank no_block = ap (λ (xs : List Block). get_or xs rank no_block) is ∙ get_or_append_left blocks (b ∷ []) no_block rank (let c = fits.count in omega (arith, c, l)) in
          let two : get_or wider rank no_bounds ≡ get_or bounds rank no_bounds = ap (λ (xs : List LoopBounds). get_or xs rank no_bounds) are ∙ get_or_append_left bounds (own ∷ []) no_bounds rank (let c = fits.count_bounds in omega (arith, c, l)) in
          subst (λ (z : Block). Fits other z (get_or wider rank no_bounds)) (sym one) (subst (λ (z : LoopBounds). Fits other (get_or blocks rank no_block) z) (sym two) old)
      whole rank other e (inr same) =
          let one : get_or grown rank no_block ≡ b = ap (λ (xs : List Block). get_or xs rank no_block) is ∙ ap (λ (k : ℕ). get_or (blocks ++ b ∷ []) k no_block) (same ∙ sym fits.count) ∙ get_or-append_seam blocks b [] no_block in
          let two : get_or wider rank no_bounds ≡ own = ap (λ (xs : List LoopBounds). get_or xs rank no_bounds) are ∙ ap (λ (k : ℕ). get_or (bounds ++ own ∷ []) k no_bounds) (same ∙ sym fits.count_bounds) ∙ get_or-append_seam bounds own [] no_bounds in
          let block_is : block ≡ other = (let s : Some block ≡ Some other = sym at ∙ ap (λ (k : ℕ). slice_get (present_blocks loops) k) (sym same) ∙ e in cc) in
          subst (λ (z : BlockRef). Fits z (get_or grown rank no_block) (get_or wider rank no_bounds)) block_is
          (subst (λ (z : Block). Fits block z (get_or wider rank no_bounds)) (sym one) (subst (λ (z : LoopBounds). Fits block b z) (sym two) fit))

  -- where a block has no fit and those before it have one
  pub block-end : (n : ℕ) (blocks : List Block) (bounds : List LoopBounds) (block : BlockRef) (e : FitEnd D) → AreBlockFits D scalars loops observations n blocks bounds → slice_get (present_blocks loops) n ≡ Some block
      → IsEndIn D observations n block (data_of scalars loops block) e → IsFitEnd D scalars loops observations e
  block-end n blocks bounds block end.NoMemory fits at h = tt
  block-end n blocks bounds block (end.Unfit unfit) fits at h = record {
    block = block;
    present = ap (λ (k : ℕ). slice_get (present_blocks loops) k) h.of ∙ at;
    first = subst (λ (k : ℕ). IsUnfitIn D observations k block (data_of scalars loops block) unfit) (sym h.of) h;
    before = λ rank other l e. data-fit D observations other scalars loops (get_or blocks rank no_block) (get_or bounds rank no_bounds) (fits.each rank other (subst (λ (k : ℕ). rank < k) h.of l) e);
  }

-- one more loop
module _ (loops : List Loop) where
  pub more-level : (bounds : List LoopBounds) (n : ℕ) (levels grown : List Level) (l : Loop) (x : Level) → AreLevels loops bounds n levels → slice_get loops n ≡ Some l
      → x ≡ level_with (kind_of l.head) (own_bounds loops bounds (n + 1)) → grown ≡ levels ++ x ∷ [] → AreLevels loops bounds (n + 1) grown
  more-level bounds n levels grown l x so_far at made is = record {
    count = ap (λ (xs : List Level). length xs) is ∙ length-append levels (x ∷ []) ∙ ap (λ (m : ℕ). m + 1) so_far.count;
    each = λ k m h e. subst (λ (xs : List Level). slice_get xs k ≡ Some (level_with (kind_of m.head) (own_bounds loops bounds (k + 1)))) (sym is) (whole k m e (less-cases k n h));
  }
    where
      whole : (k : ℕ) (m : Loop) → slice_get loops k ≡ Some m → (k < n) ⊎ (k ≡ n) → slice_get (levels ++ x ∷ []) k ≡ Some (level_with (kind_of m.head) (own_bounds loops bounds (k + 1)))
      whole k m e (inl h) = slice_get-left levels (x ∷ []) k (level_with (kind_of m.head) (own_bounds loops bounds (k + 1))) (so_far.each k m h e)
      whole k m e (inr same) =
          let loop_is : l ≡ m = (let s : Some l ≡ Some m = sym at ∙ ap (λ (j : ℕ). slice_get loops j) (sym same) ∙ e in cc) in
          let place : length levels + 0 ≡ k = (let c = so_far.count in omega (arith, c, same)) in
          let value : x ≡ level_with (kind_of m.head) (own_bounds loops bounds (k + 1)) =
          made ∙ ap (λ (z : Loop). level_with (kind_of z.head) (own_bounds loops bounds (n + 1))) loop_is ∙ ap (λ (j : ℕ). level_with (kind_of m.head) (own_bounds loops bounds (j + 1))) (sym same) in
          subst (λ (j : ℕ). slice_get (levels ++ x ∷ []) j ≡ Some (level_with (kind_of m.head) (own_bounds loops bounds (k + 1)))) place
          (slice_get-right levels (x ∷ []) 0 (level_with (kind_of m.head) (own_bounds loops bounds (k + 1))) (ap (λ (z : Level). Some z) value))

pub more-reach : (levels grown : List Level) (x : Level) → StayWithinReach levels → stride_size x.kind ≤ 2 ^ 63 → Reaches (stride_size x.kind) x.trip → grown ≡ levels ++ x ∷ [] → StayWithinReach grown
more-reach levels grown x so_far stride reaches is = record {
  strides = of-each (λ z. stride_size z.kind ≤ 2 ^ 63) so_far.strides stride;
  reach = of-each (λ z. Reaches (stride_size z.kind) z.trip) so_far.reach reaches;
}
  where
    either : (P : Level → Type 0) → ((k : ℕ) (y : Level) → slice_get levels k ≡ Some y → P y) → P x → (k : ℕ) (y : Level) → (slice_get levels k ≡ Some y) ⊎ ((j : ℕ) × (k ≡ length levels + j) × (slice_get (x ∷ []) j ≡ Some y)) → P y
    either P before here k y (inl e) = before k y e
    either P before here k y (inr (zero, s, e)) = let same : x ≡ y = cc in subst P same here
    either P before here k y (inr (suc j, s, e)) = absurd (cc)

    of-each : (P : Level → Type 0) → ((k : ℕ) (y : Level) → slice_get levels k ≡ Some y → P y) → P x → (k : ℕ) (y : Level) → slice_get grown k ≡ Some y → P y
    of-each P before here k y e = either P before here k y (slice_get-either levels (x ∷ []) k y (subst (λ (xs : List Level). slice_get xs k ≡ Some y) is e))

-- ---- the whole
kind-with : (kind : LoopKind) (own : Option LoopBounds) → (level_with kind own).kind ≡ kind
kind-with kind None = refl
kind-with kind (Some b) = refl

kinds-alike : (levels : List Level) (ls : List Loop) → length levels ≡ length ls → ((k : ℕ) (l : Loop) → slice_get ls k ≡ Some l → (x : Level) × (slice_get levels k ≡ Some x) × (x.kind ≡ kind_of l.head)) → map (λ (x : Level). x.kind) levels ≡ map (λ (l : Loop). kind_of l.head) ls
kinds-alike [] [] e each = refl
kinds-alike [] (l ∷ ls) e each = absurd (omega arith)
kinds-alike (x ∷ levels) [] e each = absurd (omega arith)
kinds-alike (x ∷ levels) (l ∷ ls) e each =
    let first = each 0 l refl in
    let same : x ≡ first.0 = (let f = first.1 in cc) in
    let kind : x.kind ≡ kind_of l.head = ap (λ (z : Level). z.kind) same ∙ first.2 in
    let rest = kinds-alike levels ls (omega arith) (λ k m g. each (suc k) m g) in
    ap (λ (z : LoopKind). z ∷ map (λ (y : Level). y.kind) levels) kind ∙ ap (λ (zs : List LoopKind). kind_of l.head ∷ zs) rest

module _ (D scalars : ℕ) (loops : List Loop) (observations : List Observation) (blocks : List Block) (bounds : List LoopBounds) (levels : List Level)
    (fits : AreBlockFits D scalars loops observations (length (present_blocks loops)) blocks bounds) (are : AreLevels loops bounds (length loops) levels) where
  abbrev t : Table
  t = record { levels = levels; blocks = blocks }

  -- the bounds of the loop of which a present block is the head
  own-is : (level rank : ℕ) → slice_get (present_blocks loops) rank ≡ Some (block_ref Head level) → own_bounds loops bounds level ≡ Some (get_or bounds rank no_bounds)
  own-is level rank e =
      let ranked = (ranks-are-numbers loops (block_ref Head level) rank).1 e in
      let within = slice_get_within (present_blocks loops) rank (block_ref Head level) e in
      ap (option_and_then (λ (r : ℕ). slice_get bounds r)) ranked ∙ slice_get-get_or bounds rank no_bounds (let c = fits.count_bounds in omega (arith, c, within))

  level-is : (k : ℕ) (l : Loop) → slice_get loops k ≡ Some l → slice_get levels k ≡ Some (level_with (kind_of l.head) (own_bounds loops bounds (k + 1)))
  level-is k l e = are.each k l (slice_get_within loops k l e) e

  -- the outermost loop has no bounds
  no-own : (o : Option ℕ) → rank_of loops (block_ref Head 1) ≡ o → (kind : LoopKind) → ((level_with kind (own_bounds loops bounds 1)).lower ≡ None) × ((level_with kind (own_bounds loops bounds 1)).trip ≡ None)
  no-own None q kind =
      let none : own_bounds loops bounds 1 ≡ None = ap (option_and_then (λ (r : ℕ). slice_get bounds r)) q in
      (ap (λ (o : Option LoopBounds). (level_with kind o).lower) none, ap (λ (o : Option LoopBounds). (level_with kind o).trip) none)
  no-own (Some rank) q kind =
      let e = (ranks-are-numbers loops (block_ref Head 1) rank).0 q in
      let own = own-is 1 rank e in
      let within = slice_get_within (present_blocks loops) rank (block_ref Head 1) e in
      let b = (fits.each rank (block_ref Head 1) within e).bounds_fit.other refl in
      (ap (λ (o : Option LoopBounds). (level_with kind o).lower) own ∙ b.0, ap (λ (o : Option LoopBounds). (level_with kind o).trip) own ∙ b.1)

  outermost : (ls : List Loop) → loops ≡ ls → ((level_at t 0).lower ≡ None) × ((level_at t 0).trip ≡ None)
  outermost [] e =
      let none : length levels ≡ 0 = are.count ∙ ap (λ (xs : List Loop). length xs) e in
      let at = beyond levels 0 no_level (omega (arith, none)) in
      (ap (λ (x : Level). x.lower) at, ap (λ (x : Level). x.trip) at)
  outermost (l ∷ ls) e =
      let found : slice_get loops 0 ≡ Some l = ap (λ (xs : List Loop). slice_get xs 0) e in
      let at = get_or_from_slice_get levels 0 _ no_level (level-is 0 l found) in
      let none = no-own (rank_of loops (block_ref Head 1)) refl (kind_of l.head) in
      let one : 0 + 1 ≡ 1 = omega arith in
      let at_one : get_or levels 0 no_level ≡ level_with (kind_of l.head) (own_bounds loops bounds 1) = at ∙ ap (λ (k : ℕ). level_with (kind_of l.head) (own_bounds loops bounds k)) one in
      (ap (λ (x : Level). x.lower) at_one ∙ none.0, ap (λ (x : Level). x.trip) at_one ∙ none.1)

  -- the loop of an inner head
  head-is : (rank : ℕ) (part : Part) (level : ℕ) → slice_get (present_blocks loops) rank ≡ Some (block_ref part level) → part ≡ Head
      → (kind : LoopKind) × (loop_of t level ≡ Some (level_with kind (Some (get_or bounds rank no_bounds))))
  head-is rank part zero e is =
      let p = (present_blocks-have-ranks loops (block_ref part 0)).1 (rank, (ranks-are-numbers loops (block_ref part 0) rank).1 e) in
      absurd (let f = p.1 in cc)
  head-is rank part (suc k) e is =
      let p = (present_blocks-have-ranks loops (block_ref part (suc k))).1 (rank, (ranks-are-numbers loops (block_ref part (suc k)) rank).1 e) in
      let one : k + 1 ≡ suc k = omega arith in
      let own = own-is (suc k) rank (e ∙ ap (λ (z : Part). Some (block_ref z (suc k))) is) in
      (kind_of p.0.head, level-is k p.0 p.1 ∙ ap (λ (j : ℕ). Some (level_with (kind_of p.0.head) (own_bounds loops bounds j))) one ∙ ap (λ (o : Option LoopBounds). Some (level_with (kind_of p.0.head) o)) own)

  module _ (rank : ℕ) (block : BlockRef) (e : slice_get (present_blocks loops) rank ≡ Some block) where
    abbrev fit : IsBlockFit D scalars loops observations block (get_or blocks rank no_block) (get_or bounds rank no_bounds)
    fit = fits.each rank block (slice_get_within (present_blocks loops) rank block e) e

    abbrev b : Block
    b = get_or blocks rank no_block

    abbrev P : What → Type 0
    P what = HasFitAt D observations block what (tube_in t b what)

    scalars-hold : All P (map (λ n. Scalar n) (range_with_len 0 scalars))
    scalars-hold = All-map P (λ (n : ℕ). Scalar n) (range_with_len 0 scalars) (All-from_get_or (λ (n : ℕ). P (Scalar n)) (range_with_len 0 scalars) 0 (λ i h.
        let size = length-range_with_len 0 scalars in
        let within : i < scalars = omega (arith, size, h) in
        let at : i ≡ get_or (range_with_len 0 scalars) i 0 = (let g = get_or-range_with_len 0 scalars i 0 within in omega (arith, g)) in
        subst (λ (n : ℕ). P (Scalar n)) at (fit.forms.each i within)))

    access-holds : (i : ℕ) → i < length (accesses_of loops block) → P (Address (suc i))
    access-holds i h =
        let count = accesses-count D observations block (accesses_of loops block) b.accesses fit.accesses in
        let a = get_or b.accesses i (record { stores = false; line = None; low = pos 0; high = pos 0 }) in
        let at : slice_get b.accesses i ≡ Some a = slice_get-get_or b.accesses i _ (omega (arith, count, h)) in
        let has = (fit.accesses.each i a at).0 in
        let one : i + 1 ≡ suc i = omega arith in
        subst (λ (o : Option Tube). HasFitAt D observations block (Address (suc i)) o) (sym (ap tube_of_access at)) (subst (λ (n : ℕ). HasFitAt D observations block (Address n) (tube_about a.line a.low a.high)) one has)

    accesses-hold : All P (map (λ n. Address n) (range_with_len 1 (length (accesses_of loops block))))
    accesses-hold = All-map P (λ (n : ℕ). Address n) (range_with_len 1 (length (accesses_of loops block))) (All-from_get_or (λ (n : ℕ). P (Address n)) (range_with_len 1 (length (accesses_of loops block))) 0 (λ i h.
        let size = length-range_with_len 1 (length (accesses_of loops block)) in
        let within : i < length (accesses_of loops block) = omega (arith, size, h) in
        let at : suc i ≡ get_or (range_with_len 1 (length (accesses_of loops block))) i 0 = (let g = get_or-range_with_len 1 (length (accesses_of loops block)) i 0 within in omega (arith, g)) in
        subst (λ (n : ℕ). P (Address n)) at (access-holds i within)))

    bounds-hold : All P (bounds_of block.part block.level)
    bounds-hold = elim (bounds-cases D observations block block.part block.level) [ inl h ↦ inner h.0 h.1 | inr none ↦ subst (λ (ws : List What). All P ws) (sym none) (All-nil P) ]
      where
        inner : block.part ≡ Head → 2 ≤ block.level → All P (bounds_of block.part block.level)
        inner part level =
            let has = fit.bounds_fit.inner part level in
            let h = head-is rank block.part block.level e part in
            let at : head_level t b ≡ Some (level_with h.0 (Some (get_or bounds rank no_bounds))) =
            ap (λ (z : Part). head_level_by z (loop_of t b.level)) (fit.part ∙ part) ∙ ap (loop_of t) fit.level ∙ h.1 in
            let lower : P Lower = subst (λ (o : Option Level). HasFitAt D observations block Lower (tube_about (option_and_then (λ (l : Level). l.lower) o) (pos 0) (pos 0))) (sym at) has.0 in
            let trip : P Trip = subst (λ (o : Option Level). HasFitAt D observations block Trip (tube_about (option_and_then (λ (l : Level). l.trip) o) (pos 0) (pos 0))) (sym at) has.1 in
            subst (λ (ws : List What). All P ws) (sym (bounds-two D observations block part level)) (All-cons P Lower (Trip ∷ []) lower (All-cons P Trip [] trip (All-nil P)))

    data-hold : All P (data_of scalars loops block)
    data-hold =
        All-append P (map (λ n. Scalar n) (range_with_len 0 scalars) ++ map (λ n. Address n) (range_with_len 1 (length (accesses_of loops block)))) (bounds_of block.part block.level)
        (All-append P (map (λ n. Scalar n) (range_with_len 0 scalars)) (map (λ n. Address n) (range_with_len 1 (length (accesses_of loops block)))) scalars-hold accesses-hold) bounds-hold

  narrow : (rank number : ℕ) (a : Access) → access_at (get_or blocks rank no_block) number ≡ Some a → HasNarrowTube a
  narrow rank zero a e = absurd (cc)
  narrow rank (suc i) a e = at (nat_lt rank (length blocks)) refl
    where
      at : (z : Bool) → nat_lt rank (length blocks) ≡ z → HasNarrowTube a
      at true q =
          let within : rank < length (present_blocks loops) = (let c = fits.count in let h = q in grind (arith, nat_tests)) in
          let block = get_or (present_blocks loops) rank (block_ref Head 0) in
          ((fits.each rank block within (slice_get-get_or (present_blocks loops) rank (block_ref Head 0) within)).accesses.each i a e).1
      at false q =
          let past : length blocks ≤ rank = (let h = q in grind (arith, nat_tests)) in
          let none : slice_get (get_or blocks rank no_block).accesses i ≡ None = ap (λ (x : Block). slice_get x.accesses i) (beyond blocks rank no_block past) in
          absurd (cc)

  pub made : IsFitOf D scalars loops observations t
  made = record {
    shape = record {
      levels = kinds-alike levels loops are.count (λ k l e. (level_with (kind_of l.head) (own_bounds loops bounds (k + 1)), level-is k l e, kind-with (kind_of l.head) (own_bounds loops bounds (k + 1))));
      count = fits.count;
      each = λ rank block e. let f = fit rank block e in record { part = f.part; level = f.level; forms = f.forms.count; accesses = f.accesses.kinds };
    };
    outermost = outermost loops refl;
    fits = data-hold;
    unseen = narrow;
  }

-- what holds of each loop of a table, and of one that isn't there
at-each : (P : Level → Type 0) (levels : List Level) → P no_level → ((k : ℕ) (x : Level) → slice_get levels k ≡ Some x → P x) → (k : ℕ) → P (get_or levels k no_level)
at-each P levels none each k = at (nat_lt k (length levels)) refl
  where
    at : (z : Bool) → nat_lt k (length levels) ≡ z → P (get_or levels k no_level)
    at true q = each k (get_or levels k no_level) (slice_get-get_or levels k no_level (let h = q in grind (arith, nat_tests)))
    at false q = subst P (sym (beyond levels k no_level (let h = q in grind (arith, nat_tests)))) none

pub strides-fit : (levels : List Level) → StayWithinReach levels → (k : ℕ) → stride_size (get_or levels k no_level).kind ≤ 2 ^ 63
strides-fit levels within = at-each (λ x. stride_size x.kind ≤ 2 ^ 63) levels (omega arith) within.strides

pub reaches-fit : (levels : List Level) → StayWithinReach levels → (k : ℕ) → Reaches (stride_size (get_or levels k no_level).kind) (get_or levels k no_level).trip
reaches-fit levels within = at-each (λ x. Reaches (stride_size x.kind) x.trip) levels tt within.reach
