use Rattle.std.proofs.Common.{refl, arith}
use Rattle.std.proofs.lemmas.Result.{IfOk-weaker, on_err_weaker}
use Rattle.nest_lang.specs.Runs.{finish_of_ending}
use Rattle.controller.proofs.StageLaws.{unit-broke, unit-not_entered, unit-over, unit-placed, unit-reach, unit-unbegun}
use Rattle.controller.proofs.PlainTurnLaws.{if-err}
use Rattle.controller.proofs.nest.run_unit.Goals as goal

pub run_stages-requires : goal.run_stages-requires
run_stages-requires g c =
    let unit = c.args.unit.now in
    let entered = c.in-Ok.ensures in
    let position = entered.position refl in
    let placed = unit-placed unit.file.now unit.number unit.nest.now unit.options c.requires.unit c.in_ok-course.course c.in_ok-course.ensures c.args.machine.now.moment c.enter.new.self.moment c.requires.count c.requires.fits entered.store entered.most position.0 position.1 in
    let reach = unit-reach unit.file.now unit.number unit.nest.now unit.options c.requires.unit c.in_ok-course.course c.in_ok-course.ensures c.args.machine.now c.enter.new.self c.enter.new.self entered.store entered.left entered.used entered.posts c.requires.reach in
    (c.type_bounds.sync-C-Rt, (c.type_bounds.sync-C-Pass, (omega arith, (placed, reach))))

pub returns-in-Ok-clause-ran : goal.returns-in-Ok-clause-ran
returns-in-Ok-clause-ran g c =
    let unit = c.args.unit.now in
    let entered = c.in-Ok.ensures in
    IfOk-weaker c.run_stages.result _ _
    (λ ending went. unit-over unit.file.now unit.number unit.nest.now unit.options c.requires.unit c.in_ok-course.course c.in_ok-course.ensures c.args.machine.now c.enter.new.self c.run_stages.new.machine
    entered.store entered.left entered.used entered.posts c.args.lines.now.items c.run_stages.new.lines.items (g.C.Crew.handed c.args.crew.now) (g.C.Crew.handed c.run_stages.new.crew) (finish_of_ending ending) entered.entered went)
    c.run_stages.ensures.ran

pub returns-in-Ok-clause-broke : goal.returns-in-Ok-clause-broke
returns-in-Ok-clause-broke g c =
    let unit = c.args.unit.now in
    let entered = c.in-Ok.ensures in
    on_err_weaker c.run_stages.result
    (unit-broke unit.file.now unit.number unit.nest.now unit.options c.requires.unit c.in_ok-course.course c.in_ok-course.ensures c.args.machine.now c.enter.new.self c.run_stages.new.machine
    entered.store entered.left entered.used entered.posts (g.C.Crew.handed c.args.crew.now) (g.C.Crew.handed c.run_stages.new.crew) entered.entered)
    c.run_stages.ensures.broke

pub returns-clause-ran : goal.returns-clause-ran
returns-clause-ran g c =
    let unit = c.args.unit.now in
    let entered = c.in-Err.ensures in
    unit-not_entered unit.file.now unit.number unit.nest.now unit.options c.requires.unit c.in_ok-course.course c.in_ok-course.ensures c.args.machine.now c.enter.new.self c.args.lines.now.items (g.C.Crew.handed c.args.crew.now) (finish_of_ending c.in-Err.ending) c.requires.count c.requires.fits entered.store entered.left entered.used entered.posts entered.entered

pub returns-in_err-course-clause-broke : goal.returns-in_err-course-clause-broke
returns-in_err-course-clause-broke g c =
    let unit = c.args.unit.now in
    if-err (unit-unbegun unit.file.now unit.number unit.options c.args.machine.now (g.C.Crew.handed c.args.crew.now)) _
