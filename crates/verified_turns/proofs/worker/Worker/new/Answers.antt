use Rattle.std.proofs.Common.{arith}
use Rattle.follow_chunk.specs.Tasks.{task_of}
use Rattle.verified_turns.proofs.TurnLaws.{new-keeps}
use Rattle.verified_turns.proofs.worker.Worker.new.Goals as goal

pub invariant_of-result : goal.invariant_of-result
invariant_of-result g c =
    let t = c.args.task.now in
    let k = task_of t in
    let tiles = c.tiles.ensures in
    let from = c.from-left.ensures in
    new-keeps c.args.words.now k (g.W.Walk.lists c.args.walk) c.args.seat.view c.requires.task c.requires.predicted c.requires.within c.args.number c.args.seat.table (g.W.Walk.rest c.args.walk) _
    c.requires.table c.requires.counted c.requires.few c.requires.lists c.requires.fresh c.requires.rest c.requires.short (omega (arith, tiles, from))
