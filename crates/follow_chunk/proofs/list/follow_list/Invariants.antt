use Rattle.std.proofs.Common.{◌≡◌, ◌≤◌, ◌*◌, length, take, Some}
use Rattle.std.specs.Prelude.{◌^◌}
use Rattle.follow.specs.FollowRuns.{follow_run}
use Rattle.follow_chunk.specs.Predicted.{forecast_of}
use Rattle.follow_chunk.specs.Items.{items_at, scalars_after}
use Rattle.follow_chunk.proofs.list.follow_list.Given as goal

abbrev pub invariant-loop-inst : goal.invariant-loop-inst
invariant-loop-inst g l = record {
  expects : g.P.Port.expects l.port ≡ g.P.Port.expects l.fn.port;
  basis : g.P.Port.basis l.port ≡ g.P.Port.basis l.fn.port;
  size : length (g.P.Port.memory l.port) ≡ length (g.P.Port.memory l.fn.port);
  few : l.steps ≤ l.inst-index * 2 ^ 32;
  follows : follow_run (forecast_of l.task.pred.now) (scalars_after l.task.pred.now) (items_at l.task.pred.now l.task.nest.now.loops l.task.outer (take l.inst-index l.list)) (g.P.Port.memory l.fn.port)
      ≡ Some (record { memory = g.P.Port.memory l.port; steps = l.steps });
}
