-- What is posted for one phase, and when it may be.
use Rattle.std.specs.Prelude.{◌≡◌, ℕ, ◌<◌, ◌≤◌, pos, List, length}
use Rattle.atomic_table.specs.Seated.{TableId}
use Rattle.domain.specs.Instances.{Instance, Predicted}
use Rattle.core_steps.specs.declared.plan.Plan.{Plan}
use Rattle.core_steps.specs.Plans.{IsSeparate, IsInside}
use Rattle.plain_lemmas.specs.Lists.{Has}
use Rattle.orders.specs.Tiles.{flat}
use Rattle.follow_chunk.specs.Tasks.{TaskState, IsTask}
use Rattle.verified_turns.specs.Workers.{StaysWithin}

-- a phase of a task: the table of its words, the instances of each tile, the plan of what the tiles touch, its number in the
-- chunk, and how many workers it gets
pub record PostingState : Type 0 where
  pub table : TableId
  pub lists : List (List Instance)
  pub plan : Plan
  pub number : ℕ
  pub workers : ℕ

-- the task is launched over so many words; the plan is separate, has at most 65,536 tiles, and its addresses are words; the
-- plan has a tile for each list, and what the instances of a list touch stays within what it says of that tile; these are
-- instances that are predicted in the task's chunk, at most 65,536; and 1 to 64 workers are asked for
pub record IsPostable (D words : ℕ) (k : TaskState) (p : PostingState) : Type 0 where
  pub deep : D < 7
  pub task : IsTask D k (pos words)
  pub separate : IsSeparate p.plan
  pub few_tiles : length p.plan.tiles ≤ 65536
  pub inside : IsInside words p.plan
  pub lists : length p.lists ≡ length p.plan.tiles
  pub within : StaysWithin k words p.plan p.lists
  pub predicted : (x : Instance) → Has (flat p.lists) x → Predicted k.pred k.chunk x
  pub short : length (flat p.lists) ≤ 65536
  pub some : 0 < p.workers
  pub few : p.workers ≤ 64
