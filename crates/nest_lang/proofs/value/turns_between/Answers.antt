use Rattle.std.proofs.Common.{pos, ◌<ℤ◌, ◌≤ℤ◌, ◌-ℤ◌, arith}
use Rattle.std.proofs.lemmas.Int.{ints, to_z-of_z}
use mir.Val.{SFits}
use mir.Syntax.{w64}
use Rattle.nest_lang.proofs.TripLaws.{steps_over-abs, steps_over-none}
use Rattle.nest_lang.proofs.value.turns_between.Goals as goal

pub returns-then-from-to : goal.returns-then-from-to
returns-then-from-to c =
    let less : pos 0 <ℤ (c.args.to -ℤ c.args.from) = grind (arith, ints) in
    let from : SFits w64 c.args.from = c.ranges.from in
    let to : SFits w64 c.args.to = c.ranges.to in
    let size = simp to_z-of_z at c.abs_diff.ensures in
    steps_over-abs (c.args.to -ℤ c.args.from) _ c.args.size _ less size c.div_ceil.ensures

pub returns-else-from-to : goal.returns-else-from-to
returns-else-from-to c =
    let none : (c.args.to -ℤ c.args.from) ≤ℤ pos 0 = grind (arith, ints) in
    steps_over-none (c.args.to -ℤ c.args.from) c.args.size none c.requires
