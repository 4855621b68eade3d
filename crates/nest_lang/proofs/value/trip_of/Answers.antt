use Rattle.std.proofs.Common.{pos, ◌<ℤ◌, ◌≤ℤ◌, arith}
use Rattle.std.proofs.lemmas.Int.{ints, to_z-of_z}
use mir.Val.{SFits}
use mir.Syntax.{w64}
use Rattle.nest_lang.proofs.TripLaws.{trip_count-rising, trip_count-falling, turns-counted}
use Rattle.nest_lang.proofs.value.trip_of.Goals as goal

pub returns-then-stride-gt0 : goal.returns-then-stride-gt0
returns-then-stride-gt0 c =
    let lower : SFits w64 c.args.lower = c.ranges.lower in
    let upper : SFits w64 c.args.upper = c.ranges.upper in
    let stride : SFits w64 c.args.stride = c.ranges.stride in
    let rising : pos 0 <ℤ c.args.stride = grind (arith, ints) in
    let steps = simp to_z-of_z at (rw c.unsigned_abs.ensures.value at c.turns_between.ensures) in
    let exact = trip_count-rising c.args.lower c.args.upper c.args.stride _ rising steps in
    record { exact = exact; turns = turns-counted c.args.lower c.args.upper c.args.stride _ c.requires exact }

pub returns-else-stride-gt0 : goal.returns-else-stride-gt0
returns-else-stride-gt0 c =
    let lower : SFits w64 c.args.lower = c.ranges.lower in
    let upper : SFits w64 c.args.upper = c.ranges.upper in
    let stride : SFits w64 c.args.stride = c.ranges.stride in
    let falling : c.args.stride ≤ℤ pos 0 = grind (arith, ints) in
    let steps = simp to_z-of_z at (rw c.unsigned_abs-else-stride-gt0.ensures.value at c.turns_between-else-stride-gt0.ensures) in
    let exact = trip_count-falling c.args.lower c.args.upper c.args.stride _ falling c.requires steps in
    record { exact = exact; turns = turns-counted c.args.lower c.args.upper c.args.stride _ c.requires exact }
