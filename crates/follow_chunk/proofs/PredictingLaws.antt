-- Predicting: the data of an instance, one after another.
use Rattle.std.proofs.Common.{◌≡◌, refl, sym, ap, ◌∙◌, ℕ, zero, suc, ◌<◌, ◌≤◌, ◌+◌, ℤ, pos, List, [], ◌∷◌, ◌++◌, map, Option, Some, None, length, take, get_or, slice_set, length-take-le, arith}
use Rattle.std.specs.Prelude.{option_map, unwrap_or}
use Rattle.std.proofs.lemmas.List.{length-map, take_more, take_more_set}
use Rattle.affine.specs.Forms.{Affine, value_at}
use Rattle.nest_lang.specs.Lookups.{Interval}
use Rattle.domain.specs.declared.prediction.What.TheVariants.{Scalar}
use Rattle.domain.specs.Tables.{Table, Access, scalar_at, access_at, line_of, tube_by}
use Rattle.domain.specs.Instances.{Instance, block_of}
use Rattle.domain.specs.Expected.{form_of, expected_of, tube_of}
use Rattle.follow_chunk.specs.Predicted.{value_or_zero, scalars_at, interval_about, interval_at}

value-is : (f : Option Affine) (at : List ℤ) → unwrap_or (option_map (λ (form : Affine). value_at form at) f) (pos 0) ≡ value_or_zero f at
value-is None at = refl
value-is (Some form) at = refl

in-list : (forms : List (Option Affine)) (at : List ℤ) (number : ℕ) → value_or_zero (get_or forms number None) at ≡ get_or (map (λ (form : Option Affine). value_or_zero form at) forms) number (pos 0)
in-list [] at number = refl
in-list (f ∷ fs) at zero = refl
in-list (f ∷ fs) at (suc number) = in-list fs at number

-- the expected scalar of a number
pub scalar_expected : (t : Table) (x : Instance) (number : ℕ) → unwrap_or (expected_of t x (Scalar number)) (pos 0) ≡ get_or (scalars_at t x) number (pos 0)
unfolding expected_of form_of scalars_at
scalar_expected t x number = value-is (scalar_at (block_of t x) number) x.at ∙ in-list (block_of t x).scalars x.at number

-- the expected interval of an access, as it stands in the block of the instance
by-access : Option Access → List ℤ → Option Interval
by-access found at = interval_about (option_map (λ (form : Affine). value_at form at) (line_of found)) (tube_by found (line_of found))

pub interval-none : (t : Table) (x : Instance) (n : ℕ) → None ≡ access_at (block_of t x) n → None ≡ interval_at t x n
unfolding interval_at expected_of form_of tube_of by-access
interval-none t x n e = ap (λ (found : Option Access). by-access found x.at) e

pub interval-some : (t : Table) (x : Instance) (n : ℕ) (a : Access) → Some a ≡ access_at (block_of t x) n → interval_about (option_map (λ (form : Affine). value_at form x.at) a.line) (Some (a.low, a.high)) ≡ interval_at t x n
unfolding interval_at expected_of form_of tube_of by-access
interval-some t x n a e = by a.line ∙ ap (λ (found : Option Access). by-access found x.at) e
  where
    by : (line : Option Affine) → interval_about (option_map (λ (form : Affine). value_at form x.at) line) (Some (a.low, a.high)) ≡ interval_about (option_map (λ (form : Affine). value_at form x.at) line) (tube_by (Some a) line)
    by None = refl
    by (Some form) = refl

pub length-scalars : (t : Table) (x : Instance) → length (scalars_at t x) ≡ length (block_of t x).scalars
unfolding scalars_at
length-scalars t x = length-map (block_of t x).scalars (λ (form : Option Affine). value_or_zero form x.at)

pub scalar-next : (t : Table) (x : Instance) (n : ℕ) (v : ℤ) → n < length (block_of t x).scalars → v ≡ get_or (scalars_at t x) n (pos 0) → take (n + 1) (scalars_at t x) ≡ take n (scalars_at t x) ++ v ∷ []
scalar-next t x n v l e =
    take_more (scalars_at t x) n (pos 0) (let s = length-scalars t x in omega arith) ∙ ap (λ (z : ℤ). take n (scalars_at t x) ++ z ∷ []) (sym e)

-- the scalar of the next number is set
pub scalar-set : (t : Table) (x : Instance) (xs : List ℤ) (n : ℕ) (v : ℤ) → n < length xs → length (block_of t x).scalars ≡ length xs → take n xs ≡ take n (scalars_at t x) → v ≡ get_or (scalars_at t x) n (pos 0)
    → take (n + 1) (slice_set xs n v) ≡ take (n + 1) (scalars_at t x)
scalar-set t x xs n v inside count front e =
    take_more_set xs n v inside ∙ ap (λ (zs : List ℤ). zs ++ v ∷ []) front ∙ sym (scalar-next t x n v (omega (arith, inside, count)) e)

-- the room for scalars, before any is set
abbrev pub room : List ℤ
room = pos 0 ∷ pos 0 ∷ pos 0 ∷ pos 0 ∷ pos 0 ∷ pos 0 ∷ pos 0 ∷ pos 0 ∷ pos 0 ∷ pos 0 ∷ pos 0 ∷ pos 0 ∷ pos 0 ∷ pos 0 ∷ pos 0 ∷ pos 0 ∷ []

pub room-taken : (n : ℕ) → n ≤ 16 → length (take n room) ≡ n
room-taken n few = length-take-le n room few
