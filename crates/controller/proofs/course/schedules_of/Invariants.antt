use Rattle.std.proofs.Common.{◌≡◌, take}
use Rattle.std.specs.List.{filter_map}
use Rattle.transform.specs.Scripts.{schedule_of}
use Rattle.controller.proofs.course.schedules_of.Given as goal

abbrev pub invariant-loop-script : goal.invariant-loop-script
invariant-loop-script g l = l.schedules.items ≡ filter_map (schedule_of g.row.D) (take l.script-index l.scripts)
