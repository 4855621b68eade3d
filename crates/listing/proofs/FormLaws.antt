-- The forms of a block, with the tubes about them.
use Rattle.std.proofs.Common.{◌≡◌, refl, sym, ap, subst, ◌∙◌, ℕ, ◌≤◌, ◌<◌, pos, ℤ, Bool, true, false, nat_le, ◌+◌, List, [], ◌∷◌, ◌++◌, get_or, Option, Some, None, arith}
use Rattle.std.specs.Prelude.{if◌then◌else◌}
use Rattle.std.specs.List.{flat_map, range_with_len}
use Rattle.std.proofs.lemmas.Bool.Decides.{nat_tests}
use Rattle.affine.specs.Forms.{Affine}
use Rattle.nest_lang.specs.declared.tree.BlockRef.{BlockRef}
use Rattle.nest_lang.specs.declared.tree.Loop.{Loop}
use Rattle.nest_lang.specs.Blocks.{block_ref, present_blocks}
use Rattle.nest_lang.specs.declared.tree.Part.{Part}
use Rattle.nest_lang.specs.declared.tree.Part.TheVariants.{Head, Pre, Post}
use Rattle.line_fit.specs.Lines.{Tube}
use Rattle.domain.specs.declared.prediction.What.{What}
use Rattle.domain.specs.declared.prediction.What.TheVariants.{Scalar, Address, Lower, Trip}
use Rattle.domain.specs.Tables.{Table, Access, access_at, block_at, line_of, tube_by}
use Rattle.domain.specs.Expected.{form_of, tube_of}
use Rattle.profile.specs.Data.{bounds_of, data_of, tube_about, tube_in, tube_of_access}
use Rattle.report.specs.declared.line.ListingLine.{ListingLine}
use Rattle.report.specs.Places.{block_of}
use Rattle.listing.specs.Lists.{block_forms, forms_of}
use Rattle.listing.proofs.GrowingListLaws.{ranged-more}

-- a form with its tube
abbrev pub tube_with : Affine → ℤ → ℤ → Tube
tube_with line low high = record { line = line; low = low; high = high }

unlined : (o : Option Access) → line_of o ≡ None → tube_of_access o ≡ None
unlined None e = refl
unlined (Some a) e = ap (λ (f : Option Affine). tube_about f a.low a.high) e

-- a datum without a form has no tube
pub no-form : (t : Table) (rank : ℕ) (what : What) → form_of t rank what ≡ None → None ≡ tube_in t (block_at t rank) what
unfolding form_of
no-form t rank (Scalar number) e = sym (ap (λ (f : Option Affine). tube_about f (pos 0) (pos 0)) e)
no-form t rank (Address access) e = sym (unlined (access_at (block_at t rank) access) e)
no-form t rank Lower e = sym (ap (λ (f : Option Affine). tube_about f (pos 0) (pos 0)) e)
no-form t rank Trip e = sym (ap (λ (f : Option Affine). tube_about f (pos 0) (pos 0)) e)

-- all data but addresses lie on their lines
pub form-line : (t : Table) (rank : ℕ) (what : What) (line : Affine) → ((access : ℕ) → what ≡ Address access → ⊥) → form_of t rank what ≡ Some line → Some (tube_with line (pos 0) (pos 0)) ≡ tube_in t (block_at t rank) what
unfolding form_of
form-line t rank (Scalar number) line other e = sym (ap (λ (f : Option Affine). tube_about f (pos 0) (pos 0)) e)
form-line t rank (Address access) line other e = absurd (other access refl)
form-line t rank Lower line other e = sym (ap (λ (f : Option Affine). tube_about f (pos 0) (pos 0)) e)
form-line t rank Trip line other e = sym (ap (λ (f : Option Affine). tube_about f (pos 0) (pos 0)) e)

abbrev pub ends : ℤ → ℤ → ℤ × ℤ
ends low high = (low, high)

low-of : ℤ → Option (ℤ × ℤ) → ℤ
low-of d None = d
low-of d (Some pair) = pair.0

high-of : ℤ → Option (ℤ × ℤ) → ℤ
high-of d None = d
high-of d (Some pair) = pair.1

address-by : (o : Option Access) (line : Affine) (low high : ℤ) → line_of o ≡ Some line → tube_by o (line_of o) ≡ Some (ends low high) → Some (tube_with line low high) ≡ tube_of_access o
unfolding low-of high-of
address-by None line low high e f = absurd (cc)
address-by (Some a) line low high e f =
    let g : Some (ends a.low a.high) ≡ Some (ends low high) = subst (λ (l : Option Affine). tube_by (Some a) l ≡ Some (ends low high)) e f in
    let lows : a.low ≡ low = ap (low-of low) g in
    let highs : a.high ≡ high = ap (high-of high) g in
    sym (ap (λ (l : Option Affine). tube_about l a.low a.high) e ∙ ap (λ (z : ℤ). Some (tube_with line z a.high)) lows ∙ ap (λ (z : ℤ). Some (tube_with line low z)) highs)

-- an address lies in its tube
pub address-tube : (t : Table) (rank access : ℕ) (line : Affine) (low high : ℤ) → form_of t rank (Address access) ≡ Some line → tube_of t rank access ≡ Some (ends low high) → Some (tube_with line low high) ≡ tube_in t (block_at t rank) (Address access)
unfolding form_of tube_of
address-tube t rank access line low high e f = address-by (access_at (block_at t rank) access) line low high e f

-- and it has one where it has a form
pub address-has-tube : (t : Table) (rank access : ℕ) (line : Affine) → form_of t rank (Address access) ≡ Some line → tube_of t rank access ≡ None → ⊥
unfolding form_of tube_of
address-has-tube t rank access line e f = by (access_at (block_at t rank) access) e f
  where
    by : (o : Option Access) → line_of o ≡ Some line → tube_by o (line_of o) ≡ None → ⊥
    by None e f = cc
    by (Some a) e f = let g : tube_by (Some a) (Some line) ≡ None = subst (λ (l : Option Affine). tube_by (Some a) l ≡ None) e f in cc

-- the data of the bounds of a loop: those of an inner head, and else none
pub bounds-inner : (part : Part) (level : ℕ) → part ≡ Head → 2 ≤ level → bounds_of part level ≡ Lower ∷ Trip ∷ []
bounds-inner part level is inner =
    let t : nat_le 2 level ≡ true = grind (arith, nat_tests) in
    ap (λ (p : Part). bounds_of p level) is ∙ ap (λ (z : Bool). if z then Lower ∷ Trip ∷ [] else []) t

pub bounds-outer : (part : Part) (level : ℕ) → level < 2 → bounds_of part level ≡ []
bounds-outer Pre level h = refl
bounds-outer Post level h = refl
bounds-outer Head level h =
    let t : nat_le 2 level ≡ false = grind (arith, nat_tests) in
    ap (λ (z : Bool). if z then Lower ∷ Trip ∷ [] else []) t

pub bounds-block : (part : Part) (level : ℕ) → (part ≡ Head → ⊥) → bounds_of part level ≡ []
bounds-block Pre level h = refl
bounds-block Post level h = refl
bounds-block Head level h = absurd (h refl)

-- the block of a rank
pub block-at : (loops : List Loop) (items : List BlockRef) (rank : ℕ) → items ≡ present_blocks loops → get_or items rank (block_ref Head 0) ≡ block_of loops rank
unfolding block_of
block-at loops items rank is = ap (λ (xs : List BlockRef). get_or xs rank (block_ref Head 0)) is

-- one more block
pub more-forms : (scalars : ℕ) (loops : List Loop) (t : Table) (rank : ℕ) (block : BlockRef) (old before after : List ListingLine) → block ≡ block_of loops rank → before ≡ old ++ flat_map (block_forms scalars loops t) (range_with_len 0 rank)
    → after ≡ before ++ forms_of t rank block (data_of scalars loops block) → after ≡ old ++ flat_map (block_forms scalars loops t) (range_with_len 0 (rank + 1))
more-forms scalars loops t rank block old before after is b a =
    ranged-more (block_forms scalars loops t) 0 rank rank old before after (omega arith) b (a ∙ ap (λ (r : BlockRef). before ++ forms_of t rank r (data_of scalars loops r)) is)
