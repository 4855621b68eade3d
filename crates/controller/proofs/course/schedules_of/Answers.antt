use Rattle.std.proofs.Common.{◌≤◌, ap, ◌∙◌, length, arith}
use Rattle.std.specs.List.{filter_map}
use Rattle.std.proofs.lemmas.List.{take_all}
use Rattle.transform.specs.Scripts.{schedule_of}
use Rattle.controller.proofs.CandidateLaws.{schedules-more}
use Rattle.controller.proofs.course.schedules_of.Goals as goal

pub returns : goal.returns
returns g c =
    let all : length c.args.scripts.now ≤ c.loop-script.script-index = omega arith in
    c.loop-script.invariant ∙ ap (filter_map (schedule_of g.row.D)) (take_all c.loop-script.script-index c.args.scripts.now all)

pub loop-script-preserved : goal.loop-script-preserved
loop-script-preserved g c =
    schedules-more g.row.D c.args.scripts.now c.loop-script.script-index c.script-item.result c.schedule_of-schedule.result c.loop-script.schedules.items c.add.new.schedules.items c.loop-script-test.true c.script-item.is
    (c.schedule_of-schedule.ensures ∙ ap (schedule_of g.row.D) c.as_slice.ensures) c.loop-script.invariant c.in_ok-add.ensures
