-- Observations have a fit, or a first datum that has none.
use Rattle.std.proofs.Common.{◌≡◌, refl, sym, ap, subst, ◌∙◌, ℕ, zero, suc, ◌+◌, ◌<◌, ◌≤◌, ◌⊎◌, inl, inr, pos, List, [], ◌∷◌, ◌++◌, length, map, get_or, take, slice_get, length-append, Bool, false, ℤ, Option, Some, None, arith}
use Rattle.std.specs.List.{range_with_len}
use Rattle.std.proofs.Math.Seq.{get_or-append_seam}
use Rattle.std.proofs.lemmas.List.{get_or_append_left}
use Rattle.std.proofs.lemmas.Option.{slice_get-get_or}
use Rattle.affine.specs.Forms.{Affine}
use Rattle.nest_lang.specs.declared.tree.Access.{Access as NestAccess}
use Rattle.nest_lang.specs.declared.tree.AccessKind.TheVariants.{Load}
use Rattle.nest_lang.specs.declared.tree.BlockRef.{BlockRef}
use Rattle.nest_lang.specs.declared.tree.Loop.{Loop}
use Rattle.nest_lang.specs.declared.tree.Part.TheVariants.{Head}
use Rattle.nest_lang.specs.Accesses.{accesses_of}
use Rattle.nest_lang.specs.Blocks.{block_ref, present_blocks}
use Rattle.nest_lang.specs.Traces.{Observation}
use Rattle.line_fit.specs.Samples.{Sample}
use Rattle.line_fit.specs.Lines.{Tube, Miss, IsFit, IsLarge, IsTooWide}
use Rattle.line_fit.proofs.SomeFit.{fit-or-reason}
use Rattle.domain.specs.declared.prediction.What.{What}
use Rattle.domain.specs.declared.prediction.What.TheVariants.{Scalar, Address, Lower, Trip}
use Rattle.domain.specs.Tables.{Table, Block, Access, Level}
use Rattle.domain.specs.Shapes.{is_store, kind_of}
use Rattle.profile.specs.declared.unfit.Unfit.{Unfit}
use Rattle.profile.specs.declared.unfit.UnfitWhy.{UnfitWhy}
use Rattle.profile.specs.declared.unfit.UnfitWhy.TheVariants as why
use Rattle.profile.specs.declared.unfit.FitEnd.TheVariants as end
use Rattle.profile.specs.Data.{bounds_of, data_of, samples_at, tube_about, widest}
use Rattle.profile.specs.Fits.{HasFitAt, HasNarrowTube, IsFitOf, IsUnfitAt, IsUnfitBy, IsUnfitIn}
use Rattle.profile.specs.Laws.{FitOrFirstUnfit}
use Rattle.profile.specs.Parts.{AreAccessFits, AreBlockFits, AreBoundFits, AreLevels, AreScalarFits, IsBlockFit, LoopBounds, level_with, no_bounds, own_bounds}
use Rattle.profile.proofs.EndLaws.{left-end, missed-end, ranged-end}
use Rattle.profile.proofs.FitPartLaws.{bounds-cases, bounds-end, bounds-two, first-end, forms-length, more-access, narrow-fit, second-end, third-end}
use Rattle.profile.proofs.WholeLaws.{block-end, made, more-block, more-level}

below : (k n : ℕ) → k < suc n → (k < n) ⊎ (k ≡ n)
below k n h = grind arith

module _ (D : ℕ) (observations : List Observation) (rank : ℕ) (block : BlockRef) where
  -- the first of some data of the block that has no fit
  abbrev EndsIn : List What → Type 0
  EndsIn list = (unfit : Unfit D) × IsUnfitIn D observations rank block list unfit

  abbrev Fitted : What → Type 0
  Fitted what = (fit : Option Tube) × HasFitAt D observations block what fit

  unfit-by : (what : What) (reason : UnfitWhy D) → IsUnfitBy D rank (widest what) (samples_at D observations block what) reason → EndsIn (what ∷ [])
  unfit-by what reason h = (record { block = rank; what = what; why = reason }, missed-end D observations rank block what reason h)

  by-reason : (what : What) (samples : List Sample) → samples_at D observations block what ≡ samples → 0 < length samples
      → ((tube : Tube) × IsFit D (widest what) samples tube) ⊎ (((number : ℤ) × IsLarge D samples number) ⊎ ((miss : Miss) × IsTooWide D (widest what) samples miss)) → Fitted what ⊎ EndsIn (what ∷ [])
  by-reason what samples e some (inl (tube, fit)) = inl (Some tube, subst (λ (xs : List Sample). (0 < length xs) × IsFit D (widest what) xs tube) (sym e) (some, fit))
  by-reason what samples e some (inr (inl (number, large))) = inr (unfit-by what (why.Large number) (subst (λ (xs : List Sample). (0 < length xs) × IsLarge D xs number) (sym e) (some, large)))
  by-reason what samples e some (inr (inr (miss, wide))) =
      inr (unfit-by what (why.Line (record { block = rank; at = miss.at }) miss.line miss.seen)
      (subst (λ (xs : List Sample). IsUnfitBy D rank (widest what) xs (why.Line (record { block = rank; at = miss.at }) miss.line miss.seen)) (sym e) (some, refl, wide)))

  -- a datum
  some-fit : (what : What) → Fitted what ⊎ EndsIn (what ∷ [])
  some-fit what = of (samples_at D observations block what) refl
    where
      of : (samples : List Sample) → samples_at D observations block what ≡ samples → Fitted what ⊎ EndsIn (what ∷ [])
      of [] e = inl (None, e)
      of (s ∷ ss) e = by-reason what (s ∷ ss) e (omega arith) (fit-or-reason D (widest what) (s ∷ ss) (omega arith))

  abbrev Lined : What → Type 0
  Lined what = (form : Option Affine) × HasFitAt D observations block what (tube_about form (pos 0) (pos 0))

  -- one that lies on its line
  some-line : (what : What) → widest what ≡ 0 → Lined what ⊎ EndsIn (what ∷ [])
  some-line what narrow = of (some-fit what)
    where
      of : Fitted what ⊎ EndsIn (what ∷ []) → Lined what ⊎ EndsIn (what ∷ [])
      of (inl (None, h)) = inl (None, h)
      of (inl (Some tube, h)) = inl (Some tube.line, narrow-fit D (widest what) (samples_at D observations block what) tube narrow h)
      of (inr e) = inr e

  -- ---- the scalars
  more-scalar : (n : ℕ) (forms : List (Option Affine)) (form : Option Affine) → AreScalarFits D observations block n forms → HasFitAt D observations block (Scalar n) (tube_about form (pos 0) (pos 0)) → AreScalarFits D observations block (suc n) (forms ++ form ∷ [])
  more-scalar n forms form fits fit = record {
    count = length-append forms (form ∷ []) ∙ (let c = fits.count in omega (arith, c));
    each = λ k h. elim (below k n h) [
      | inl less ↦ subst (λ (o : Option Affine). HasFitAt D observations block (Scalar k) (tube_about o (pos 0) (pos 0))) (sym (get_or_append_left forms (form ∷ []) None k (let c = fits.count in omega (arith, c, less)))) (fits.each k less)
      | inr same ↦
          let here : get_or (forms ++ form ∷ []) n None ≡ form = ap (λ (j : ℕ). get_or (forms ++ form ∷ []) j None) (sym fits.count) ∙ get_or-append_seam forms form [] None in
          subst (λ (j : ℕ). HasFitAt D observations block (Scalar j) (tube_about (get_or (forms ++ form ∷ []) j None) (pos 0) (pos 0))) (sym same) (subst (λ (o : Option Affine). HasFitAt D observations block (Scalar n) (tube_about o (pos 0) (pos 0))) (sym here) fit)
    ];
  }

  abbrev ScalarsTo : ℕ → Type 0
  ScalarsTo n = (forms : List (Option Affine)) × AreScalarFits D observations block n forms

  some-scalars : (count n : ℕ) → n ≤ count → ScalarsTo n ⊎ EndsIn (map (λ k. Scalar k) (range_with_len 0 count))
  some-scalars count zero h = inl ([], record { count = refl; each = λ k l. absurd (omega (arith, l)) })
  some-scalars count (suc n) h = of (some-scalars count n (omega (arith, h)))
    where
      next : (forms : List (Option Affine)) → AreScalarFits D observations block n forms → Lined (Scalar n) ⊎ EndsIn (Scalar n ∷ []) → ScalarsTo (suc n) ⊎ EndsIn (map (λ k. Scalar k) (range_with_len 0 count))
      next forms fits (inl (form, fit)) = inl (forms ++ form ∷ [], more-scalar n forms form fits fit)
      next forms fits (inr (unfit, at)) = inr (
        unfit,
        ranged-end D observations rank block (λ (k : ℕ). Scalar k) 0 count n n (end.Unfit unfit) (omega (arith, h)) (omega arith)
            (λ k l. (tube_about (get_or forms k None) (pos 0) (pos 0), subst (λ (j : ℕ). HasFitAt D observations block (Scalar j) (tube_about (get_or forms k None) (pos 0) (pos 0))) (omega arith) (fits.each k l))) at,
      )

      of : ScalarsTo n ⊎ EndsIn (map (λ k. Scalar k) (range_with_len 0 count)) → ScalarsTo (suc n) ⊎ EndsIn (map (λ k. Scalar k) (range_with_len 0 count))
      of (inl (forms, fits)) = next forms fits (some-line (Scalar n) refl)
      of (inr e) = inr e

  -- ---- the accesses
  access_of : Bool → Option Tube → Access
  access_of stores None = record { stores = stores; line = None; low = pos 0; high = pos 0 }
  access_of stores (Some t) = record { stores = stores; line = Some t.line; low = t.low; high = t.high }

  access_of-stores : (stores : Bool) (fit : Option Tube) → (access_of stores fit).stores ≡ stores
  unfolding access_of
  access_of-stores stores None = refl
  access_of-stores stores (Some t) = refl

  access_of-fit : (stores : Bool) (fit : Option Tube) → fit ≡ tube_about (access_of stores fit).line (access_of stores fit).low (access_of stores fit).high
  unfolding access_of
  access_of-fit stores None = refl
  access_of-fit stores (Some t) = refl

  access_of-narrow : (stores : Bool) (fit : Option Tube) → HasNarrowTube (access_of stores fit)
  unfolding access_of
  access_of-narrow stores None = λ none. (refl, refl)
  access_of-narrow stores (Some t) = λ none. absurd (cc)

  module _ (all : List NestAccess) where
    abbrev AccessesTo : ℕ → Type 0
    AccessesTo n = (forms : List Access) × AreAccessFits D observations block (take n all) forms

    no-nest-access : NestAccess
    no-nest-access = record { number = 0; kind = Load }

    unseen : Access
    unseen = record { stores = false; line = None; low = pos 0; high = pos 0 }

    take-none : (xs : List NestAccess) → take 0 xs ≡ []
    take-none [] = refl
    take-none (x ∷ xs) = refl

    abbrev Addresses : List What
    Addresses = map (λ k. Address k) (range_with_len 1 (length all))

    some-accesses : (n : ℕ) → n ≤ length all → AccessesTo n ⊎ EndsIn Addresses
    some-accesses zero h = inl ([], subst (λ (xs : List NestAccess). AreAccessFits D observations block xs []) (sym (take-none all)) (record { kinds = refl; each = λ k a e. absurd (cc) }))
    some-accesses (suc n) h = of (some-accesses n (omega (arith, h)))
      where
        within : n < length all
        within = omega (arith, h)

        one : n + 1 ≡ suc n
        one = omega arith

        next : (forms : List Access) → AreAccessFits D observations block (take n all) forms → Fitted (Address (n + 1)) ⊎ EndsIn (Address (n + 1) ∷ []) → AccessesTo (suc n) ⊎ EndsIn Addresses
        next forms fits (inl (fit, is)) =
            let stores = is_store (get_or all n no-nest-access).kind in
            let a = access_of stores fit in
            inl (
              forms ++ a ∷ [],
              subst (λ (m : ℕ). AreAccessFits D observations block (take m all) (forms ++ a ∷ [])) one
                  (more-access D observations block all n no-nest-access forms (forms ++ a ∷ []) a within fits refl (access_of-stores stores fit)
                  (subst (λ (t : Option Tube). HasFitAt D observations block (Address (n + 1)) t) (access_of-fit stores fit) is) (access_of-narrow stores fit)),
            )
        next forms fits (inr (unfit, at)) =
            let size = forms-length D observations block all forms n fits within in
            inr (
              unfit,
              ranged-end D observations rank block (λ (k : ℕ). Address k) 1 (length all) n (n + 1) (end.Unfit unfit) within (omega arith)
                  (λ k l. let a = get_or forms k unseen in (
                    tube_about a.line a.low a.high,
                    subst (λ (j : ℕ). HasFitAt D observations block (Address j) (tube_about a.line a.low a.high)) (omega arith) (fits.each k a (slice_get-get_or forms k unseen (omega (arith, size, l)))).0,
                  )) at,
            )

        of : AccessesTo n ⊎ EndsIn Addresses → AccessesTo (suc n) ⊎ EndsIn Addresses
        of (inl (forms, fits)) = next forms fits (some-fit (Address (n + 1)))
        of (inr e) = inr e

    take-whole : (xs : List NestAccess) → take (length xs) xs ≡ xs
    take-whole [] = refl
    take-whole (x ∷ xs) = ap (λ (ys : List NestAccess). x ∷ ys) (take-whole xs)

    all-accesses : ((forms : List Access) × AreAccessFits D observations block all forms) ⊎ EndsIn Addresses
    all-accesses = of (some-accesses (length all) (omega arith))
      where
        of : AccessesTo (length all) ⊎ EndsIn Addresses → ((forms : List Access) × AreAccessFits D observations block all forms) ⊎ EndsIn Addresses
        of (inl (forms, fits)) = inl (forms, subst (λ (xs : List NestAccess). AreAccessFits D observations block xs forms) (take-whole all) fits)
        of (inr e) = inr e

  -- ---- the bounds
  abbrev Bounded : Type 0
  Bounded = (bounds : LoopBounds) × AreBoundFits D observations block bounds

  with-trip : (part : block.part ≡ Head) (inner : 2 ≤ block.level) (lower : Option Affine) → HasFitAt D observations block Lower (tube_about lower (pos 0) (pos 0)) → Lined Trip ⊎ EndsIn (Trip ∷ []) → Bounded ⊎ EndsIn (bounds_of block.part block.level)
  with-trip part inner lower fit (inl (trip, fit')) =
      inl (record { lower = lower; trip = trip }, record { inner = λ p l. (fit, fit'); other = λ none. absurd (let e = sym (bounds-two D observations block part inner) ∙ none in cc) })
  with-trip part inner lower fit (inr (unfit, at)) = inr (unfit, bounds-end D observations block rank lower (end.Unfit unfit) part inner fit at)

  with-lower : (part : block.part ≡ Head) (inner : 2 ≤ block.level) → Lined Lower ⊎ EndsIn (Lower ∷ []) → Bounded ⊎ EndsIn (bounds_of block.part block.level)
  with-lower part inner (inl (lower, fit)) = with-trip part inner lower fit (some-line Trip refl)
  with-lower part inner (inr (unfit, at)) =
      inr (unfit, subst (λ (ws : List What). IsUnfitIn D observations rank block ws unfit) (sym (bounds-two D observations block part inner)) (left-end D observations rank block (Lower ∷ []) (Trip ∷ []) (end.Unfit unfit) at))

  some-bounds : Bounded ⊎ EndsIn (bounds_of block.part block.level)
  some-bounds = of (bounds-cases D observations block block.part block.level)
    where
      of : ((block.part ≡ Head) × (2 ≤ block.level)) ⊎ (bounds_of block.part block.level ≡ []) → Bounded ⊎ EndsIn (bounds_of block.part block.level)
      of (inl (part, inner)) = with-lower part inner (some-line Lower refl)
      of (inr none) = inl (no_bounds, record { inner = λ part inner. absurd (let e = sym (bounds-two D observations block part inner) ∙ none in cc); other = λ e. (refl, refl) })

  -- ---- a block
  module _ (scalars : ℕ) (loops : List Loop) where
    abbrev Made : Type 0
    Made = (b : Block) × (bounds : LoopBounds) × IsBlockFit D scalars loops observations block b bounds

    abbrev Data : List What
    Data = data_of scalars loops block

    some-block : Made ⊎ EndsIn Data
    some-block = of (some-scalars scalars scalars (omega arith))
      where
        with-bounds : (forms : List (Option Affine)) → AreScalarFits D observations block scalars forms → (accesses : List Access) → AreAccessFits D observations block (accesses_of loops block) accesses → Bounded ⊎ EndsIn (bounds_of block.part block.level) → Made ⊎ EndsIn Data
        with-bounds forms fits accesses made (inl (bounds, fit)) =
            inl (record { part = block.part; level = block.level; scalars = forms; accesses = accesses }, bounds, record { part = refl; level = refl; forms = fits; accesses = made; bounds_fit = fit })
        with-bounds forms fits accesses made (inr (unfit, at)) = inr (unfit, third-end D observations block scalars loops rank (end.Unfit unfit) forms (accesses_of loops block) accesses refl fits made at)

        with-accesses : (forms : List (Option Affine)) → AreScalarFits D observations block scalars forms → ((accesses : List Access) × AreAccessFits D observations block (accesses_of loops block) accesses) ⊎ EndsIn (Addresses (accesses_of loops block)) → Made ⊎ EndsIn Data
        with-accesses forms fits (inl (accesses, made)) = with-bounds forms fits accesses made some-bounds
        with-accesses forms fits (inr (unfit, at)) = inr (unfit, second-end D observations block scalars loops rank (end.Unfit unfit) forms (accesses_of loops block) refl fits at)

        of : ScalarsTo scalars ⊎ EndsIn (map (λ k. Scalar k) (range_with_len 0 scalars)) → Made ⊎ EndsIn Data
        of (inl (forms, fits)) = with-accesses forms fits (all-accesses (accesses_of loops block))
        of (inr (unfit, at)) = inr (unfit, first-end D observations block scalars loops rank (end.Unfit unfit) at)

-- ---- the whole
module _ (D scalars : ℕ) (loops : List Loop) (observations : List Observation) where
  abbrev Blocks : ℕ → Type 0
  Blocks n = (blocks : List Block) × (bounds : List LoopBounds) × AreBlockFits D scalars loops observations n blocks bounds

  abbrev UnfitSomewhere : Type 0
  UnfitSomewhere = (unfit : Unfit D) × IsUnfitAt D scalars loops observations unfit

  abbrev block-at : ℕ → BlockRef
  block-at n = get_or (present_blocks loops) n (block_ref Head 0)

  some-blocks : (n : ℕ) → n ≤ length (present_blocks loops) → Blocks n ⊎ UnfitSomewhere
  some-blocks zero h = inl ([], [], record { count = refl; count_bounds = refl; each = λ rank block l e. absurd (omega (arith, l)) })
  some-blocks (suc n) h = of (some-blocks n (omega (arith, h)))
    where
      here : slice_get (present_blocks loops) n ≡ Some (block-at n)
      here = slice_get-get_or (present_blocks loops) n (block_ref Head 0) (omega (arith, h))

      one : n + 1 ≡ suc n
      one = omega arith

      next : (blocks : List Block) (bounds : List LoopBounds) → AreBlockFits D scalars loops observations n blocks bounds → Made D observations n (block-at n) scalars loops ⊎ EndsIn D observations n (block-at n) (data_of scalars loops (block-at n)) → Blocks (suc n) ⊎ UnfitSomewhere
      next blocks bounds fits (inl (b, own, fit)) =
          inl (
            blocks ++ b ∷ [],
            bounds ++ own ∷ [],
            subst (λ (m : ℕ). AreBlockFits D scalars loops observations m (blocks ++ b ∷ []) (bounds ++ own ∷ [])) one
                (more-block D scalars loops observations n blocks (blocks ++ b ∷ []) bounds (bounds ++ own ∷ []) (block-at n) b own fits here fit refl refl),
          )
      next blocks bounds fits (inr (unfit, at)) = inr (unfit, block-end D scalars loops observations n blocks bounds (block-at n) (end.Unfit unfit) fits here at)

      of : Blocks n ⊎ UnfitSomewhere → Blocks (suc n) ⊎ UnfitSomewhere
      of (inl (blocks, bounds, fits)) = next blocks bounds fits (some-block D observations n (block-at n) scalars loops)
      of (inr e) = inr e

  nth : (xs : List Loop) (n : ℕ) → n < length xs → (l : Loop) × (slice_get xs n ≡ Some l)
  nth [] n h = absurd (omega (arith, h))
  nth (x ∷ xs) zero h = (x, refl)
  nth (x ∷ xs) (suc n) h = nth xs n (omega (arith, h))

  some-levels : (bounds : List LoopBounds) (n : ℕ) → n ≤ length loops → (levels : List Level) × AreLevels loops bounds n levels
  some-levels bounds zero h = ([], record { count = refl; each = λ k l less e. absurd (omega (arith, less)) })
  some-levels bounds (suc n) h =
      let before = some-levels bounds n (omega (arith, h)) in
      let loop = nth loops n (omega (arith, h)) in
      let x = level_with (kind_of loop.0.head) (own_bounds loops bounds (n + 1)) in
      let one : n + 1 ≡ suc n = omega arith in
      (before.0 ++ x ∷ [], subst (λ (m : ℕ). AreLevels loops bounds m (before.0 ++ x ∷ [])) one (more-level loops bounds n before.0 (before.0 ++ x ∷ []) loop.0 x before.1 loop.1 refl refl))

  some-table : ((t : Table) × IsFitOf D scalars loops observations t) ⊎ UnfitSomewhere
  some-table = of (some-blocks (length (present_blocks loops)) (omega arith))
    where
      of : Blocks (length (present_blocks loops)) ⊎ UnfitSomewhere → ((t : Table) × IsFitOf D scalars loops observations t) ⊎ UnfitSomewhere
      of (inl (blocks, bounds, fits)) =
          let levels = some-levels bounds (length loops) (omega arith) in
          inl (record { levels = levels.0; blocks = blocks }, made D scalars loops observations blocks bounds levels.0 fits levels.1)
      of (inr e) = inr e

pub fit-or-first-unfit : FitOrFirstUnfit
fit-or-first-unfit = some-table
