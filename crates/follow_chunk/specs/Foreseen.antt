-- Foreseen: an instance of a task with what is expected of it.
use Rattle.std.specs.Prelude.{◌≡◌, ◌<◌, ℕ}
use Rattle.nest_lang.specs.Lookups.{Expectation}
use Rattle.domain.specs.Instances.{Instance, Predicted}
use Rattle.domain.specs.Steps as steps
use Rattle.follow_chunk.specs.declared.expect.Foreseen.{Foreseen}
use Rattle.follow_chunk.specs.Predicted.{scalars_at}
use Rattle.follow_chunk.specs.Tasks.{TaskState, IsSomeTask}
use Rattle.follow_chunk.specs.Verifies.{VerifiesInstance}

-- what is asked of an instance that is followed over a port which verifies its accesses by itself: it is predicted in
-- the chunk of a task of D loops, what is expected of it is what the task's table says, and after it the scalars that its
-- successor begins with, and the port expects of each of its accesses the interval of the table
pub record CanFollow {D : ℕ} (k : TaskState) (f : Foreseen D) (x : Expectation) : Type 0 where
  pub few : D < 7
  pub pred : f.pred.now ≡ k.pred
  pub next : scalars_at k.pred f.next ≡ scalars_at k.pred (steps.next k.pred f.inst.now)
  pub task : IsSomeTask D k
  pub predicted : Predicted k.pred k.chunk f.inst.now
  pub own : VerifiesInstance x k.pred f.inst.now
