use Rattle.std.proofs.Common.{ap, length, lit<, lit≤, List}
use Rattle.nest_lang.specs.declared.tree.Loop.{Loop}
use Rattle.profile.proofs.ExampleLaws.{filling-keeps}
use Rattle.profile.proofs.tests.fitted.Goals as goal

pub fit-requires : goal.fit-requires
fit-requires c =
    let loops : List Loop = c.in_ok-nest.nest.loops in
    let is = c.in_ok-nest.ensures in
    (lit< tt, (lit< tt, (lit< tt, (ap (λ (xs : List Loop). length xs) is, (lit≤ tt, filling-keeps loops is)))))
