use Rattle.std.proofs.Common.{◌≡◌, ◌∙◌, ◌++◌, ◌∷◌, [], ◌-ℤ◌, sym, ap, subst, FitsSigned, w64, to_z-of_z, arith}
use Rattle.nest_lang.specs.declared.state.Outer.{Outer}
use Rattle.nest_lang.specs.Turns.{finish_of_turned}
use Rattle.report.specs.declared.line.Line.TheVariants as said
use Rattle.controller.specs.declared.stage.Stage.{Stage}
use Rattle.controller.specs.declared.stage.Stage.TheVariants.{Plainly}
use Rattle.controller.specs.Courses.{Led}
use Rattle.controller.proofs.PlainTurnLaws.{plain-led, difference-fits, done-few, next-fits, if-ok}
use Rattle.controller.proofs.turns.plainly.Goals as goal

pub after_turns-requires : goal.after_turns-requires
after_turns-requires g c =
    let p = c.requires.placed in
    let ran = c.run-turned.ensures.ran in
    let few = done-few c.args.course.now c.args.machine.now.moment c.run-turned.new.self.moment c.turns_within-turns.result ran.0 (finish_of_turned c.run-turned.result.0) p ran.1 in
    let here : FitsSigned w64 c.args.machine.now.moment.outer.next = next-fits c.args.course.now c.args.machine.now.moment p in
    let fits : FitsSigned w64 c.outer-first.result.next = rw c.outer-first.ensures here in
    simp to_z-of_z (rw c.outer-first.ensures (omega arith, difference-fits c.args.machine.now.moment c.run-turned.new.self.moment ran.0 ran.1.outer few))

pub returns-clause-led : goal.returns-clause-led
returns-clause-led g c =
    let p = c.requires.placed in
    let ran = c.run-turned.ensures.ran in
    let here : FitsSigned w64 c.args.machine.now.moment.outer.next = next-fits c.args.course.now c.args.machine.now.moment p in
    let fits : FitsSigned w64 c.outer-first.result.next = rw c.outer-first.ensures here in
    let all = rw c.turns_within-turns.ensures at ran.1 in
    if-ok _ _
    (λ stage is.
    let lines : c.after_turns.new.lines.items ≡ c.args.lines.now.items ++ said.Plain c.args.machine.now.moment.outer.next (c.run-turned.new.self.moment.outer.next -ℤ c.args.machine.now.moment.outer.next) ∷ [] =
    (simp to_z-of_z at is.1) ∙ ap (λ (o : Outer). c.args.lines.now.items ++ said.Plain o.next (c.run-turned.new.self.moment.outer.next -ℤ o.next) ∷ []) c.outer-first.ensures in
    subst (λ (s : Stage g.row.D). Led c.args.course.now (Plainly c.args.turns) c.args.machine.now.moment c.args.lines.now.items s c.run-turned.new.self.moment c.after_turns.new.lines.items []) (sym is.0)
    (plain-led c.args.course.now c.args.turns c.args.machine.now.moment c.run-turned.new.self.moment ran.0 c.args.lines.now.items c.after_turns.new.lines.items p.keeps.loops_keep p c.requires.turn c.requires.some
    c.run-turned.ensures.position c.run-turned.ensures.count lines c.run-turned.result.0 all))
    c.after_turns.result c.after_turns.ensures
