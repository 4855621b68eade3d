use Rattle.std.proofs.Common.{◌≡◌, ◌⊎◌, ◌≤◌, ◌+ℤ◌, length}
use Rattle.std.specs.List.{AllByRecursion}
use Rattle.domain.specs.Instances.{Predicted, opening_at}
use Rattle.follow_bench.proofs.instances.predicted.Given as goal

abbrev pub invariant-loop-done : goal.invariant-loop-done
invariant-loop-done g l = record {
  at : Predicted l.task.pred.now l.task.chunk l.at ⊎ (l.at ≡ opening_at l.task.pred.now (l.task.chunk.first +ℤ l.task.chunk.turns));
  all : AllByRecursion (Predicted l.task.pred.now l.task.chunk) l.list.items;
  count : length l.list.items ≤ l._done;
}
