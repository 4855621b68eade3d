-- The parts of a fit.
use Rattle.std.proofs.Common.{◌≡◌, refl, sym, ap, subst, ◌∙◌, ℕ, zero, suc, ◌+◌, ◌<◌, ◌≤◌, ◌⊎◌, inl, inr, Bool, ℤ, pos, ◌-ℤ◌, ◌≤ℤ◌, List, [], ◌∷◌, ◌++◌, length, map, get_or, take, slice_get, nat_le, true, false, Option, Some, None, arith}
use Rattle.std.specs.Prelude.{if◌then◌else◌}
use Rattle.std.specs.List.{range_with_len}
use Rattle.std.proofs.lemmas.Bool.Decides.{nat_tests}
use Rattle.std.proofs.lemmas.Option.{slice_get-get_or}
use Rattle.std.proofs.lemmas.List.{take_more, length-map, length-take-le, map-append}
use Rattle.std.proofs.lemmas.Int.{ints}
use Rattle.affine.specs.Forms.{Affine}
use Rattle.nest_lang.specs.declared.tree.Access.{Access as NestAccess}
use Rattle.nest_lang.specs.declared.tree.BlockRef.{BlockRef}
use Rattle.nest_lang.specs.declared.tree.Loop.{Loop}
use Rattle.nest_lang.specs.declared.tree.Part.{Part}
use Rattle.nest_lang.specs.declared.tree.Part.TheVariants.{Head, Pre, Post}
use Rattle.nest_lang.specs.Accesses.{accesses_of}
use Rattle.nest_lang.specs.Traces.{Observation}
use Rattle.line_fit.specs.Samples.{Sample}
use Rattle.line_fit.specs.Lines.{Tube, IsFit}
use Rattle.line_fit.proofs.FitLaws.{tube-holds-zero}
use Rattle.domain.specs.declared.prediction.What.{What}
use Rattle.domain.specs.declared.prediction.What.TheVariants.{Scalar, Address, Lower, Trip}
use Rattle.domain.specs.Tables.{Access, Block}
use Rattle.domain.specs.Shapes.{is_store}
use Rattle.profile.specs.declared.unfit.FitEnd.{FitEnd}
use Rattle.profile.specs.Data.{bounds_of, data_of, tube_about}
use Rattle.profile.specs.Fits.{AreFitIn, HasFit, HasFitAt, HasNarrowTube}
use Rattle.profile.specs.Parts.{AreAccessFits, AreBoundFits, AreScalarFits, HasTube, IsBlockFit, IsEndIn, LoopBounds}
use Rattle.profile.proofs.EndLaws.{both-fit, left-end, one-end, ranged-fit, right-end, slice_get-either}

between : (low high : ℤ) → low ≤ℤ pos 0 → pos 0 ≤ℤ high → (high -ℤ low) ≤ℤ pos 0 → (low ≡ pos 0) × (high ≡ pos 0)
between low high a b c = (omega (arith, ints), omega (arith, ints))

-- a datum that lies on its line has the tube (0, 0)
pub narrow-fit : (D : ℕ) (most : ℕ) (samples : List Sample) (t : Tube) → most ≡ 0 → HasFit D most samples (Some t) → HasFit D most samples (tube_about (Some t.line) (pos 0) (pos 0))
narrow-fit D most samples t none (some, fit) =
    let about = tube-holds-zero D samples t.line t.low t.high some fit.line fit.spread in
    let ends = between t.low t.high about.0 about.1 (subst (λ (n : ℕ). (t.high -ℤ t.low) ≤ℤ pos n) none fit.narrow) in
    (some, subst (λ (z : ℤ). IsFit D most samples (record { line = t.line; low = pos 0; high = z })) ends.1 (subst (λ (z : ℤ). IsFit D most samples (record { line = t.line; low = z; high = t.high })) ends.0 fit))

-- an address has a tube that an access may have
pub fit-tube : (D : ℕ) (samples : List Sample) (fit : Option Tube) → HasFit D 64 samples fit → HasTube fit
fit-tube D samples None h = tt
fit-tube D samples (Some t) (some, fit) =
    let about = tube-holds-zero D samples t.line t.low t.high some fit.line fit.spread in
    record { below = about.0; above = about.1; width = fit.narrow }

-- one more access
module _ (D : ℕ) (observations : List Observation) (block : BlockRef) (all : List NestAccess) where
  pub forms-length : (forms : List Access) (i : ℕ) → AreAccessFits D observations block (take i all) forms → i < length all → length forms ≡ i
  forms-length forms i fits within =
      let taken : length (take i all) ≡ i = length-take-le i all (omega arith) in
      sym (length-map forms (λ (x : Access). x.stores)) ∙ ap (λ (xs : List Bool). length xs) fits.kinds ∙ length-map (take i all) (λ (x : NestAccess). is_store x.kind) ∙ taken

  pub more-access : (i : ℕ) (d : NestAccess) (forms grown : List Access) (a : Access) → i < length all → AreAccessFits D observations block (take i all) forms → grown ≡ forms ++ a ∷ []
      → a.stores ≡ is_store (get_or all i d).kind → HasFitAt D observations block (Address (i + 1)) (tube_about a.line a.low a.high) → HasNarrowTube a → AreAccessFits D observations block (take (i + 1) all) grown
  more-access i d forms grown a within so_far is kind fit narrow = record { kinds = kinds; each = λ n x e. whole n x (slice_get-either forms (a ∷ []) n x (subst (λ (xs : List Access). slice_get xs n ≡ Some x) is e)) }
    where
      stored : List Access → List Bool
      stored xs = map (λ (x : Access). x.stores) xs

      kinds : map (λ (x : Access). x.stores) grown ≡ map (λ (x : NestAccess). is_store x.kind) (take (i + 1) all)
      kinds =
          ap (λ (xs : List Access). map (λ (x : Access). x.stores) xs) is ∙ map-append (λ (x : Access). x.stores) forms (a ∷ []) ∙ ap (λ (xs : List Bool). xs ++ a.stores ∷ []) so_far.kinds
          ∙ ap (λ (b : Bool). map (λ (x : NestAccess). is_store x.kind) (take i all) ++ b ∷ []) kind
          ∙ sym (ap (λ (xs : List NestAccess). map (λ (x : NestAccess). is_store x.kind) xs) (take_more all i d within) ∙ map-append (λ (x : NestAccess). is_store x.kind) (take i all) (get_or all i d ∷ []))

      size : length forms ≡ i
      size = forms-length forms i so_far within

      whole : (n : ℕ) (x : Access) → (slice_get forms n ≡ Some x) ⊎ ((j : ℕ) × (n ≡ length forms + j) × (slice_get (a ∷ []) j ≡ Some x)) → HasFitAt D observations block (Address (n + 1)) (tube_about x.line x.low x.high) × HasNarrowTube x
      whole n x (inl e) = so_far.each n x e
      whole n x (inr (zero, s, e)) =
          let same : a ≡ x = cc in
          let here : i ≡ n = (let z = size in omega (arith, s)) in (
            subst (λ (m : ℕ). HasFitAt D observations block (Address (m + 1)) (tube_about x.line x.low x.high)) here (subst (λ (y : Access). HasFitAt D observations block (Address (i + 1)) (tube_about y.line y.low y.high)) same fit),
            subst HasNarrowTube same narrow,
          )
      whole n x (inr (suc j, s, e)) = absurd (cc)

-- ---- the data of a block
module _ (D : ℕ) (observations : List Observation) (block : BlockRef) where
  no-access : Access
  no-access = record { stores = false; line = None; low = pos 0; high = pos 0 }

  pub scalars-fit : (n : ℕ) (forms : List (Option Affine)) → AreScalarFits D observations block n forms → AreFitIn D observations block (map (λ k. Scalar k) (range_with_len 0 n))
  scalars-fit n forms fits = ranged-fit D observations 0 block (λ (k : ℕ). Scalar k) 0 n (λ k l. (
    tube_about (get_or forms k None) (pos 0) (pos 0),
    subst (λ (j : ℕ). HasFitAt D observations block (Scalar j) (tube_about (get_or forms k None) (pos 0) (pos 0))) (omega arith) (fits.each k l),
  ))

  pub accesses-count : (all : List NestAccess) (forms : List Access) → AreAccessFits D observations block all forms → length forms ≡ length all
  accesses-count all forms fits = sym (length-map forms (λ (x : Access). x.stores)) ∙ ap (λ (xs : List Bool). length xs) fits.kinds ∙ length-map all (λ (x : NestAccess). is_store x.kind)

  pub accesses-fit : (all : List NestAccess) (forms : List Access) → AreAccessFits D observations block all forms → AreFitIn D observations block (map (λ k. Address k) (range_with_len 1 (length all)))
  accesses-fit all forms fits = ranged-fit D observations 0 block (λ (k : ℕ). Address k) 1 (length all) (λ k l. let a = get_or forms k no-access in let size = accesses-count all forms fits in (
    tube_about a.line a.low a.high,
    subst (λ (j : ℕ). HasFitAt D observations block (Address j) (tube_about a.line a.low a.high)) (omega arith) (fits.each k a (slice_get-get_or forms k no-access (omega (arith, size, l)))).0,
  ))

  pub bounds-two : block.part ≡ Head → 2 ≤ block.level → bounds_of block.part block.level ≡ Lower ∷ Trip ∷ []
  bounds-two part inner =
      let t : nat_le 2 block.level ≡ true = grind (arith, nat_tests) in
      ap (λ (p : Part). bounds_of p block.level) part ∙ ap (λ (z : Bool). if z then Lower ∷ Trip ∷ [] else []) t

  pub bounds-end : (rank : ℕ) (lower : Option Affine) (e : FitEnd D) → block.part ≡ Head → 2 ≤ block.level → HasFitAt D observations block Lower (tube_about lower (pos 0) (pos 0)) → IsEndIn D observations rank block (Trip ∷ []) e → IsEndIn D observations rank block (bounds_of block.part block.level) e
  bounds-end rank lower e part inner fit h =
      subst (λ (list : List What). IsEndIn D observations rank block list e) (sym (bounds-two part inner)) (one-end D observations rank block (Lower ∷ Trip ∷ []) 1 Trip e refl before h)
    where
      before : (k : ℕ) (w : What) → k < 1 → slice_get (Lower ∷ Trip ∷ []) k ≡ Some w → (t : Option Tube) × HasFitAt D observations block w t
      before zero w l g = let is : Lower ≡ w = cc in (tube_about lower (pos 0) (pos 0), subst (λ (x : What). HasFitAt D observations block x (tube_about lower (pos 0) (pos 0))) is fit)
      before (suc k) w l g = absurd (omega (arith, l))

  -- either the bounds of an inner head, or none
  pub bounds-cases : (part : Part) (level : ℕ) → ((part ≡ Head) × (2 ≤ level)) ⊎ (bounds_of part level ≡ [])
  bounds-cases Pre level = inr refl
  bounds-cases Post level = inr refl
  bounds-cases Head level = at (nat_le 2 level) refl
    where
      at : (z : Bool) → nat_le 2 level ≡ z → ((Head ≡ Head) × (2 ≤ level)) ⊎ (bounds_of Head level ≡ [])
      at true e = inl (refl, (let t = e in grind (arith, nat_tests)))
      at false e = inr (ap (λ (z : Bool). if z then Lower ∷ Trip ∷ [] else []) e)

  pub bounds-fit : (bounds : LoopBounds) → AreBoundFits D observations block bounds → AreFitIn D observations block (bounds_of block.part block.level)
  bounds-fit bounds fits = elim (bounds-cases block.part block.level) [ inl h ↦ inner h.0 h.1 | inr none ↦ subst (AreFitIn D observations block) (sym none) (λ k w e. absurd (cc)) ]
    where
      inner : block.part ≡ Head → 2 ≤ block.level → AreFitIn D observations block (bounds_of block.part block.level)
      inner part level = subst (AreFitIn D observations block) (sym (bounds-two part level)) two
        where
          two : AreFitIn D observations block (Lower ∷ Trip ∷ [])
          two zero w e = let is : Lower ≡ w = cc in (tube_about bounds.lower (pos 0) (pos 0), subst (λ (x : What). HasFitAt D observations block x (tube_about bounds.lower (pos 0) (pos 0))) is (fits.inner part level).0)
          two (suc zero) w e = let is : Trip ≡ w = cc in (tube_about bounds.trip (pos 0) (pos 0), subst (λ (x : What). HasFitAt D observations block x (tube_about bounds.trip (pos 0) (pos 0))) is (fits.inner part level).1)
          two (suc (suc k)) w e = absurd (cc)

  module _ (scalars : ℕ) (loops : List Loop) where
    abbrev first : List What
    first = map (λ k. Scalar k) (range_with_len 0 scalars)

    abbrev second : List What
    second = map (λ k. Address k) (range_with_len 1 (length (accesses_of loops block)))

    abbrev third : List What
    third = bounds_of block.part block.level

    pub data-fit : (b : Block) (bounds : LoopBounds) → IsBlockFit D scalars loops observations block b bounds → AreFitIn D observations block (data_of scalars loops block)
    data-fit b bounds fit =
        both-fit D observations 0 block (first ++ second) third
        (both-fit D observations 0 block first second (scalars-fit scalars b.scalars fit.forms) (accesses-fit (accesses_of loops block) b.accesses fit.accesses)) (bounds-fit bounds fit.bounds_fit)

    pub first-end : (rank : ℕ) (e : FitEnd D) → IsEndIn D observations rank block first e → IsEndIn D observations rank block (data_of scalars loops block) e
    first-end rank e h = left-end D observations rank block (first ++ second) third e (left-end D observations rank block first second e h)

    pub second-end : (rank : ℕ) (e : FitEnd D) (forms : List (Option Affine)) (accesses : List NestAccess) → accesses ≡ accesses_of loops block → AreScalarFits D observations block scalars forms
        → IsEndIn D observations rank block (map (λ k. Address k) (range_with_len 1 (length accesses))) e → IsEndIn D observations rank block (data_of scalars loops block) e
    second-end rank e forms accesses is fits h =
        left-end D observations rank block (first ++ second) third e (right-end D observations rank block first second e (scalars-fit scalars forms fits)
        (subst (λ (xs : List NestAccess). IsEndIn D observations rank block (map (λ k. Address k) (range_with_len 1 (length xs))) e) is h))

    pub third-end : (rank : ℕ) (e : FitEnd D) (forms : List (Option Affine)) (accesses : List NestAccess) (made : List Access) → accesses ≡ accesses_of loops block → AreScalarFits D observations block scalars forms
        → AreAccessFits D observations block accesses made → IsEndIn D observations rank block third e → IsEndIn D observations rank block (data_of scalars loops block) e
    third-end rank e forms accesses made is fits made_fit h =
        right-end D observations rank block (first ++ second) third e
        (both-fit D observations rank block first second (scalars-fit scalars forms fits) (accesses-fit (accesses_of loops block) made (subst (λ (xs : List NestAccess). AreAccessFits D observations block xs made) is made_fit))) h
