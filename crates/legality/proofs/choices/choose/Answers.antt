use Rattle.std.proofs.Common.{◌∙◌, sym, subst, [], FitsSigned, w64, rules, arith}
use Rattle.std.proofs.lemmas.Int.{to_z-of_z}
use Rattle.legality.proofs.ChoiceLaws.{AreRefused, chosen, chosen-legal, none-chosen, none-refused, one-refused}
use Rattle.legality.proofs.choices.choose.Goals as goal

pub loop-place-init : goal.loop-place-init
loop-place-init g c =
    let l : FitsSigned w64 c.args.turns = search rules in
    simp to_z-of_z (subst (AreRefused c.args.pred.now c.args.turns c.args.schedules.now 0) (sym c.new-refusals.ensures.items) (none-refused c.args.pred.now c.args.turns c.args.schedules.now))

pub loop-place-preserved : goal.loop-place-preserved
loop-place-preserved g c =
    let l : FitsSigned w64 c.args.turns = search rules in
    simp to_z-of_z
    (one-refused c.args.pred.now c.args.turns c.args.schedules.now c.loop-place.place c.index-schedules-place.result c.loop-place.refusals.items c.push.new.self.items c.in-Some.refusal
    (simp to_z-of_z at c.loop-place.invariant) (omega (arith, c.loop-place-test.true)) (sym c.index-schedules-place.is) (sym c.in-Some.is ∙ (simp to_z-of_z at c.in_ok-refusal.ensures)) c.in_ok-push-in-Some.ensures.items)

pub returns-in-None-clause-value : goal.returns-in-None-clause-value
returns-in-None-clause-value g c =
    let l : FitsSigned w64 c.args.turns = search rules in
    chosen c.args.pred.now c.args.turns c.args.schedules.now c.loop-place.place c.index-schedules-place.result c.loop-place.refusals.items
    (simp to_z-of_z at c.loop-place.invariant) (omega (arith, c.loop-place-test.true)) (sym c.index-schedules-place.is) (sym (simp to_z-of_z at c.in_ok-refusal.ensures) ∙ c.in-None.is)

pub returns-in-None-clause-legal : goal.returns-in-None-clause-legal
returns-in-None-clause-legal g c =
    let l : FitsSigned w64 c.args.turns = search rules in
    chosen-legal c.args.pred.now c.args.turns c.args.schedules.now c.loop-place.place c.index-schedules-place.result
    (omega (arith, c.loop-place-test.true)) (sym c.index-schedules-place.is) (sym (simp to_z-of_z at c.in_ok-refusal.ensures) ∙ c.in-None.is)

pub returns-clause-value : goal.returns-clause-value
returns-clause-value g c =
    let l : FitsSigned w64 c.args.turns = search rules in
    none-chosen c.args.pred.now c.args.turns c.args.schedules.now c.loop-place.place (record { lines = []; seq = 0 }) c.loop-place.refusals.items (simp to_z-of_z at c.loop-place.invariant) (omega (arith, c.loop-place-test.false))
