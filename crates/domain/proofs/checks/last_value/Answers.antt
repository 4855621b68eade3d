use Rattle.std.proofs.Common.{◌≤◌, ◌^◌, ℤ, pos, ◌+ℤ◌, ◌-ℤ◌, ◌*ℤ◌, unsigned_abs, FitsSigned, arith}
use Rattle.std.proofs.Math.Facts.{sfits_widen}
use Rattle.std.specs.Int.{w128}
use Rattle.std.proofs.lemmas.Int.{fits_signed_from_abs, ints}
use Rattle.plain_lemmas.proofs.IntegerLaws.{unsigned_abs-add}
use Rattle.domain.proofs.CheckLaws.{last-computed, last-fits}
use Rattle.domain.proofs.checks.last_value.Goals as goal

less-fits : (r : ℤ) → unsigned_abs r ≤ 2 ^ 120 → FitsSigned w128 (r -ℤ pos 1)
less-fits r h = fits_signed_from_abs w128 (r -ℤ pos 1) (omega (arith, ints))

sum-fits : (l p : ℤ) → unsigned_abs l ≤ 2 ^ 63 → unsigned_abs p ≤ 2 ^ 120 → FitsSigned w128 (l +ℤ p)
sum-fits l p h k = let a = unsigned_abs-add l p in fits_signed_from_abs w128 (l +ℤ p) (omega arith)

part-fits : (p : ℤ) → unsigned_abs p ≤ 2 ^ 120 → FitsSigned w128 p
part-fits p h = fits_signed_from_abs w128 p (omega arith)

pub overflow_add-result : goal.overflow_add-result
overflow_add-result c =
    last-fits c.args.lower c.args.stride c.args.trip c.from.result c.from.ensures c.ranges.stride (sfits_widen tt c.ranges.stride) c.ranges.lower c.ranges.trip
    (less-fits c.args.trip c.requires.trip) (part-fits (c.args.stride *ℤ (c.args.trip -ℤ pos 1)) c.requires.last) (sum-fits c.args.lower (c.args.stride *ℤ (c.args.trip -ℤ pos 1)) c.requires.lower c.requires.last)

pub returns : goal.returns
returns c =
    last-computed c.args.lower c.args.stride c.args.trip c.from.result c.from.ensures c.ranges.stride (sfits_widen tt c.ranges.stride) c.ranges.lower c.ranges.trip
    (less-fits c.args.trip c.requires.trip) (part-fits (c.args.stride *ℤ (c.args.trip -ℤ pos 1)) c.requires.last) (sum-fits c.args.lower (c.args.stride *ℤ (c.args.trip -ℤ pos 1)) c.requires.lower c.requires.last)
