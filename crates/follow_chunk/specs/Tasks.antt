-- Tasks: a launched chunk of a nest, with what is predicted of it.
use Rattle.std.specs.Prelude.{◌≡◌, ◌^◌, ℕ, ℤ, pos, ◌≤ℤ◌, unsigned_abs, List}
use Rattle.nest_lang.specs.declared.tree.Loop.{Loop}
use Rattle.nest_lang.specs.declared.state.Outer.{Outer}
use Rattle.nest_lang.specs.Rules.{NestKeeps}
use Rattle.nest_lang.specs.Turns.{IsPositionIn}
use Rattle.domain.specs.declared.chunk.Chunk.{Chunk}
use Rattle.domain.specs.Tables.{Table, IsTable}
use Rattle.domain.specs.Shapes.{IsTableOf, LowersWithTrips}
use Rattle.domain.specs.Launches.{IsLaunched}
use Rattle.follow.specs.ChunkRuns.{HasTurnsIn}
use Rattle.follow_chunk.specs.declared.task.Task.{Task}

-- a task, as plain data: how many scalars the file has, the loops of the nest, the table of what is predicted of it, the
-- position of its outermost loop, and the chunk
pub record TaskState : Type 0 where
  pub scalars : ℕ
  pub loops : List Loop
  pub pred : Table
  pub outer : Outer
  pub chunk : Chunk

abbrev pub task_of : {D : ℕ} → Task D → TaskState
task_of task = record { scalars = task.scalars; loops = task.nest.now.loops; pred = task.pred.now; outer = task.outer; chunk = task.chunk }

-- a chunk of a nest of D loops, over so many words: the nest keeps the rules, the table is one of it, the chunk has the
-- next turns from the position of the outermost loop, which that loop has, and it is launched
pub record IsTask (D : ℕ) (k : TaskState) (words : ℤ) : Type 0 where
  pub keeps : NestKeeps k.scalars k.loops
  pub shape : IsTable D k.pred
  pub table : IsTableOf k.scalars k.loops k.pred
  pub lowers : LowersWithTrips k.pred
  pub position : IsPositionIn k.loops k.outer
  pub first : k.chunk.first ≡ k.outer.next
  pub soon : k.chunk.first ≤ℤ pos (2 ^ 32)
  pub some : pos 1 ≤ℤ k.chunk.turns
  pub most : k.chunk.turns ≤ℤ pos 1024
  pub turns : HasTurnsIn k.loops k.outer (unsigned_abs k.chunk.turns)
  pub launched : (instances : ℕ) × IsLaunched k.pred words k.chunk instances

-- the same over some number of words
abbrev pub IsSomeTask : ℕ → TaskState → Type 0
IsSomeTask D k = (words : ℤ) × IsTask D k words
