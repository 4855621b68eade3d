-- Chunks: the next turns of a nest.
use Rattle.std.specs.Prelude.{◌≡◌, ◌^◌, ℕ, pos, ◌≤ℤ◌, unsigned_abs, List, true}
use Rattle.nest_lang.specs.declared.tree.Loop.{Loop}
use Rattle.nest_lang.specs.declared.state.Outer.{Outer}
use Rattle.nest_lang.specs.Rules.{loops_keep}
use Rattle.domain.specs.declared.chunk.Chunk.{Chunk}
use Rattle.domain.specs.Tables.{Table, IsTable}
use Rattle.domain.specs.Shapes.{IsTableOf}
use Rattle.follow.specs.ChunkRuns.{HasTurnsIn}
use Rattle.follow_chunk.specs.Tasks.{TaskState}

-- a chunk of a nest in a file with so many scalars: the nest keeps the rules, the table is one of it, and the chunk has
-- the next turns from a position of the outermost loop, at least one, which that loop has. Nothing is said of a launch.
pub record IsNextChunk (scalars : ℕ) (loops : List Loop) (t : Table) (o : Outer) (chunk : Chunk) : Type 0 where
  pub keeps : loops_keep loops ≡ true
  pub table : IsTableOf scalars loops t
  pub first : chunk.first ≡ o.next
  pub from : pos 0 ≤ℤ chunk.first
  pub some : pos 1 ≤ℤ chunk.turns
  pub turns : HasTurnsIn loops o (unsigned_abs chunk.turns)

-- a task whose chunk, of a nest of D loops, begins soon and isn't long, so that the turn after it has an i64 as its number
pub record IsWatchable (D : ℕ) (k : TaskState) : Type 0 where
  pub shape : IsTable D k.pred
  pub next : IsNextChunk k.scalars k.loops k.pred k.outer k.chunk
  pub soon : k.chunk.first ≤ℤ pos (2 ^ 32)
  pub most : k.chunk.turns ≤ℤ pos 1024
