use Rattle.std.proofs.Common.{◌≡◌, ◌≤◌, sym, ◌∙◌, length, take, arith, rules}
use Rattle.domain.specs.Instances.{block_of}
use Rattle.follow_chunk.specs.Tasks.{task_of}
use Rattle.follow_chunk.proofs.PredictingLaws.{room, room-taken}
use Rattle.follow_chunk.proofs.RunningLaws.{few-scalars, count-here, fits-here}
use Rattle.follow_chunk.proofs.task.Task.follow_with_scalars.Goals as goal

pub slice_bounds-room-end : goal.slice_bounds-room-end
slice_bounds-room-end g c =
    let self = c.args.self.now in
    let task = c.requires.task in
    let x = c.args.foreseen.now.inst.now in
    let p = c.requires.predicted in
    few-scalars g.row.D (task_of self) task.0 task.1 x p

pub slice_bounds-scalars-end : goal.slice_bounds-scalars-end
slice_bounds-scalars-end g c =
    let self = c.args.self.now in
    let task = c.requires.task in
    let x = c.args.foreseen.now.inst.now in
    let p = c.requires.predicted in
    sym (room-taken self.scalars (few-scalars g.row.D (task_of self) task.0 task.1 x p))

pub begin-requires : goal.begin-requires
begin-requires g c =
    let self = c.args.self.now in
    let task = c.requires.task in
    let x = c.args.foreseen.now.inst.now in
    let p = c.requires.predicted in
    let few = few-scalars g.row.D (task_of self) task.0 task.1 x p in
    let long = room-taken self.scalars few in
    let short : length (take self.scalars room) ≤ 16 = omega (arith, few, long) in
    let count : length (block_of self.pred.now x).scalars ≡ length (take self.scalars room) = count-here g.row.D (task_of self) task.0 task.1 x p ∙ sym long in
    let fits = fits-here g.row.D (task_of self) task.0 task.1 x p in
    search rules
