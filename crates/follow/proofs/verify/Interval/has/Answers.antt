use Rattle.std.proofs.Common.{◌≡◌, ◌∙◌, ap, true, ℤ, ◌-ℤ◌, to_z, of_z, rules}
use Rattle.std.specs.Prelude.{int_le}
use Rattle.std.specs.Int.{w128}
use Rattle.follow.proofs.VerifyLaws.{near-lies}
use Rattle.follow.proofs.verify.Interval.has.Goals as goal

pub returns-then-from-distance : goal.returns-then-from-distance
returns-then-from-distance c =
    let i = c.args.self in
    let d : ℤ = to_z w128 (of_z w128 c.in-Some.distance) in
    let high : to_z w128 (of_z w128 c.from-then-from-distance.result) ≡ i.high = search rules in
    let distance : d ≡ c.args.address -ℤ i.line = search rules in
    let low : int_le i.low d ≡ true = search rules in
    ap (int_le d) high ∙ near-lies i.line i.low i.high c.args.address d distance low
