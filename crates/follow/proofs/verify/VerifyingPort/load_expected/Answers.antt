use Rattle.std.proofs.Common.{rules, ◌≡◌, ap, sym, ◌∙◌, ℤ, true, w64, to_z, of_z}
use Rattle.nest_lang.specs.Lookups.{look}
use Rattle.follow.proofs.VerifyLaws.{look-refused}
use Rattle.follow.proofs.verify.VerifyingPort.load_expected.Goals as goal

pub returns-in-Some-clause-answer : goal.returns-in-Some-clause-answer
returns-in-Some-clause-answer g c =
    let same : to_z w64 (of_z w64 c.args.address) ≡ c.args.address = search rules in
    look-refused (g.E.Expected.intervals c.args.self.now.expected.now c.args.access) (g.P.Port.memory c.args.self.now.port.now) (to_z w64 (of_z w64 c.args.address)) c.in-Some.expected (sym c.refused.ensures ∙ c.in-Some.is)
    ∙ ap (λ (z : ℤ). look true (g.E.Expected.intervals c.args.self.now.expected.now c.args.access) (g.P.Port.memory c.args.self.now.port.now) z) same
