use Rattle.std.proofs.Common.{◌≡◌, length, take}
use Rattle.follow_chunk.specs.Items.{around_of}
use Rattle.follow_chunk.proofs.task.Task.values.Given as goal

abbrev pub invariant-loop-depth : goal.invariant-loop-depth
invariant-loop-depth g l = record {
  long : length l.values ≡ g.row.D;
  same : take l.depth l.values ≡ (around_of l.self.pred.now l.self.nest.now.loops l.self.outer (take l.depth l.inst.at)).values;
}
