-- The values of a `for`'s name lie between its bounds.
use Rattle.std.proofs.Common.{◌≡◌, ℕ, suc, ◌*◌, ◌<◌, ℤ, pos, negsuc, ◌+ℤ◌, ◌*ℤ◌, ◌<ℤ◌, ◌≤ℤ◌, neg_ℤ, FitsSigned, w64, arith, rules}
use Rattle.std.specs.Prelude.{◌↔◌}
use Rattle.std.proofs.lemmas.Int.{ints}
use Rattle.std.proofs.Math.IntN.{pos-*ℤ-pos, negsuc-*ℤ-pos}
use Rattle.plain_lemmas.proofs.IntegerLaws.{FitsSigned-between}
use Rattle.nest_lang.specs.Values.{turn_value, IsTurn}

pub turn-fits : (lower upper stride : ℤ) (t : ℕ) → FitsSigned w64 lower → FitsSigned w64 upper → IsTurn lower upper stride t → FitsSigned w64 (turn_value lower stride t)
turn-fits lower upper (pos k) t f g h =
    let below : (lower +ℤ pos (k * t)) <ℤ upper = rw pos-*ℤ-pos at h in
    rw pos-*ℤ-pos (FitsSigned-between w64 lower (lower +ℤ pos (k * t)) upper f g (omega (arith, ints)) (omega (arith, ints)))
turn-fits lower upper (negsuc k) t f g h =
    let above : upper <ℤ (lower +ℤ neg_ℤ (pos (suc k * t))) = rw negsuc-*ℤ-pos at h in
    rw negsuc-*ℤ-pos (FitsSigned-between w64 upper (lower +ℤ neg_ℤ (pos (suc k * t))) lower g f (omega (arith, ints)) (omega (arith, ints)))
