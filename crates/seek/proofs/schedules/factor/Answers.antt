use Rattle.std.proofs.Common.{◌≡◌, ◌<◌, ◌≤◌, ◌-◌, ◌^◌, arith}
use Rattle.seek.proofs.ScriptLaws.{power-most, power-some}
use Rattle.seek.proofs.schedules.factor.Goals as goal

pub pow-requires : goal.pow-requires
pow-requires c =
    let is : c.from.result ≡ c.args.depth - c.args.row = c.from.ensures in
    let most : 4 ^ c.from.result ≤ 1024 = power-most c.from.result (omega (arith, is, c.requires.few, c.requires.from)) in
    omega (arith, most)

pub nonzero_div-result : goal.nonzero_div-result
nonzero_div-result c =
    let is : c.from.result ≡ c.args.depth - c.args.row = c.from.ensures in
    let some : 0 < 4 ^ c.from.result = power-some c.from.result (omega (arith, is, c.requires.few, c.requires.from)) in
    omega (arith, some, c.pow.ensures)
