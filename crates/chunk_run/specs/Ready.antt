-- Ready: a launched chunk with all that its phases need.
use Rattle.std.specs.Prelude.{◌≡◌, ◌<◌, ◌≤◌, ℕ, pos}
use Rattle.transform.specs.Schedules.{IsSchedule}
use Rattle.skeletons.specs.Cells.{Extent}
use Rattle.follow_chunk.specs.Tasks.{TaskState, IsTask}
use Rattle.tiles.specs.Plans.{ChunkPlan, IsPlanOf}
use Rattle.chunk_run.specs.ChunkEnds.{IsLegalFor}

-- the task's chunk is launched over so many words, its schedule is legal, what is scanned is this chunk in the order of
-- this schedule, and it is planned; and there are 1 to 64 workers
pub record IsReady (D words workers : ℕ) (k : TaskState) (e : Extent) (plan : ChunkPlan) : Type 0 where
  pub deep : D < 7
  pub task : IsTask D k (pos words)
  pub same_table : e.table ≡ k.pred
  pub same_chunk : e.chunk ≡ k.chunk
  pub schedule : IsSchedule D e.schedule
  pub legal : IsLegalFor k.pred e.schedule k.chunk
  pub planned : IsPlanOf e words plan
  pub some : 0 < workers
  pub few : workers ≤ 64
