use Rattle.std.proofs.Common.{sym, ◌∙◌, ap, ap₂, List, ℤ, take, arith}
use Rattle.domain.specs.Instances.{Instance}
use Rattle.follow.specs.Plans.{frame_with}
use Rattle.follow_chunk.specs.Tasks.{task_of}
use Rattle.follow_chunk.proofs.PlacingLaws.{around-counters, counters-deep}
use Rattle.follow_chunk.proofs.task.Task.site.Goals as goal

pub returns : goal.returns
returns g c = λ x.
    let self = c.args.self.now in
    let task = c.requires.task in
    let deep = counters-deep g.row.D (task_of self) task.0 task.1 c.args.inst.now c.requires.predicted in
    let around = c.requires.around in
    let same = ap (λ (y : Instance). y.at) c.inst.view_is in
    let counters = ap (take c.args.loops) same ∙ sym (around-counters g.row.D (task_of self) task.0 task.1 c.args.inst.now c.requires.predicted c.args.loops (omega arith)) in
    ap₂ (λ (cs vs : List ℤ). frame_with (record { block = c.args.block; counters = cs }) vs x) counters c.requires.values
