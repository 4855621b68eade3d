-- How inputs come into their registers.
use Rattle.std.proofs.Common.{◌≡◌, ◌≢◌, refl, ap, sym, subst, ◌∙◌, ℕ, suc, ◌<◌, ◌≤◌, ◌+◌, ◌⊎◌, inl, inr, ℤ, pos, List, length, slice_get, get_or, set, Option, Some, None, arith}
use Rattle.std.proofs.lemmas.List.{get_or-set_same, get_or-set_other}
use Rattle.std.proofs.Math.Nat.{le-suc_iff}
use Rattle.std.proofs.lemmas.Option.{slice_get-get_or, slice_get_within}
use Rattle.block_exec.specs.declared.code.Input.{Input}
use Rattle.block_exec.specs.Codes.{held, input_value}
use Rattle.block_exec.specs.Coded.{HoldInputs}

-- the first inputs are in their registers
abbrev pub HoldFirst : List ℤ → List Input → ℕ → List ℤ → Type 0
HoldFirst values inputs n rs = (i : ℕ) (x : Input) → i < n → slice_get inputs i ≡ Some x → held rs (128 + i) ≡ input_value values x

same-input : (x y : Input) → Some x ≡ Some y → x ≡ y
same-input x y e = grind arith

pub first-next : (values rs : List ℤ) (inputs : List Input) (at : ℕ) (v : ℤ) (z : Input) → at < length inputs → at < 128 → length rs ≡ 256 → v ≡ input_value values (get_or inputs at z) → HoldFirst values inputs at rs → HoldFirst values inputs (at + 1) (set rs (128 + at) v)
first-next values rs inputs at v z within low size item hold i x h is = by ((le-suc_iff {m = suc i} {n = at}).0 (omega (arith, h)))
  where
    by : ((suc i ≤ at) ⊎ (suc i ≡ suc at)) → held (set rs (128 + at) v) (128 + i) ≡ input_value values x
    by (inl below) =
        let other : 128 + i ≢ 128 + at = λ e. omega (arith, below, e) in
        get_or-set_other rs (128 + at) (128 + i) v (pos 0) other ∙ hold i x (omega (arith, below)) is
    by (inr same) =
        let i_is : i ≡ at = omega (arith, same) in
        let room : 128 + at < length rs = omega (arith, low, size) in
        let found : Some (get_or inputs at z) ≡ slice_get inputs at = sym (slice_get-get_or inputs at z within) in
        let x_is : get_or inputs at z ≡ x = same-input (get_or inputs at z) x (found ∙ sym (ap (slice_get inputs) i_is) ∙ is) in
        rw i_is (get_or-set_same rs (128 + at) v (pos 0) room ∙ item ∙ ap (input_value values) x_is)

pub first-all : (values rs : List ℤ) (inputs : List Input) (at : ℕ) → length inputs ≤ at → HoldFirst values inputs at rs → HoldInputs values inputs rs
first-all values rs inputs at past hold i x is = hold i x (omega (arith, past, slice_get_within inputs i x is)) is
