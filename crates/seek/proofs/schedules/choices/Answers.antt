use Rattle.std.proofs.Common.{◌≡◌, ◌≤◌, ◌-◌, ◌^◌, arith}
use Rattle.seek.proofs.ScriptLaws.{place-most}
use Rattle.seek.proofs.schedules.choices.Goals as goal

pub pow-requires : goal.pow-requires
pow-requires c =
    let is : c.from.result ≡ c.args.depth = c.from.ensures in
    let most : 4 ^ (c.from.result - 1) ≤ 1024 = place-most c.from.result (omega (arith, is, c.requires.some)) (omega (arith, is, c.requires.few)) in
    omega (arith, most)

pub returns-clause-most : goal.returns-clause-most
returns-clause-most c =
    let is : c.from.result ≡ c.args.depth = c.from.ensures in
    let most : 4 ^ (c.from.result - 1) ≤ 1024 = place-most c.from.result (omega (arith, is, c.requires.some)) (omega (arith, is, c.requires.few)) in
    omega (arith, most, c.pow.ensures)
