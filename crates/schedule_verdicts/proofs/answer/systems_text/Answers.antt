use Rattle.std.proofs.Common.{◌∙◌, sym, subst, rules, arith}
use Rattle.dependence.specs.Systems.{IsSystemOf}
use Rattle.schedule_verdicts.proofs.ListedLaws.{system-of}
use Rattle.schedule_verdicts.proofs.answer.systems_text.Goals as goal

pub push_system-requires : goal.push_system-requires
push_system-requires g c =
    let of = subst (IsSystemOf c.args.pred.now) (sym c.system-item.is)
    (system-of c.args.pred.now _ c.deref-system-items.result.now c.loop-system.system-index c.system-item.result (c.deref-system-items.ensures.value ∙ c.in_ok-systems.ensures) (omega (arith, c.loop-system-test.true))) in
    (search rules, (search rules, (c.requires.some, (c.requires.few, of))))
