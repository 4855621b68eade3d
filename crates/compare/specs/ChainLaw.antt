-- The chain law at predictions: a chunk against its predicted instances, one after another.
use Rattle.std.specs.Prelude.{◌≡◌, ◌↔◌, ℕ, ◌<◌, ◌≤◌, ◌+ℤ◌, unsigned_abs, List, [], length, Some}
use Rattle.nest_lang.specs.declared.tree.Loop.{Loop}
use Rattle.nest_lang.specs.declared.state.Outer.{Outer}
use Rattle.nest_lang.specs.Stores.{Store}
use Rattle.nest_lang.specs.Lookups.{plain}
use Rattle.nest_lang.specs.Traces.{Trace}
use Rattle.nest_lang.specs.Turns.{turns_trace}
use Rattle.domain.specs.declared.chunk.Chunk.{Chunk}
use Rattle.domain.specs.Tables.{Table, IsTable}
use Rattle.domain.specs.Instances.{Instance, IsOriginal, opening_at}
use Rattle.orders.specs.Runs.{Outcome}
use Rattle.follow.specs.FollowRuns.{follow_run}
use Rattle.follow.specs.ChunkRuns.{chunk_run, ChunkRun}
use Rattle.follow.specs.Deviations.{FollowsPrediction}
use Rattle.follow.specs.ChainLaw.{Ends}
use Rattle.follow_chunk.specs.Predicted.{occurrence_of, scalars_at, forecast_of}
use Rattle.follow_chunk.specs.Items.{items_at, scalars_after}
use Rattle.compare.specs.Chunks.{IsNextChunk}

-- the first block at the turn after a chunk, with inner counters 0: it follows the chunk's last instance
abbrev pub behind : Table → Chunk → Instance
behind t chunk = opening_at t (chunk.first +ℤ chunk.turns)

-- the run of a chunk from a store with so many steps left, which is cut where they end: its closing scalars are those
-- that the instance behind the chunk begins with
abbrev pub run_of_chunk : Table → Chunk → Trace → Store → ℕ → ChunkRun
run_of_chunk t chunk trace s left = chunk_run (occurrence_of t (behind t chunk)) trace s left

-- the scalars are those expected of the first instance, the follow run of these instances, each of which is expected to
-- leave the scalars that its successor begins with, is this, and its steps are at most those left
pub record Chained (t : Table) (loops : List Loop) (o : Outer) (chunk : Chunk) (xs : List Instance) (s : Store) (left : ℕ) (r : Outcome) : Type 0 where
  pub begins : s.scalars ≡ scalars_at t (opening_at t chunk.first)
  pub follows : follow_run (forecast_of t) (scalars_after t) (items_at t loops o xs) s.memory ≡ Some r
  pub suffice : r.steps ≤ left

-- A chunk follows its prediction exactly where the scalars at its start are those expected of its first instance, the
-- follow run of *Predicted* isn't None, and its steps are at most those left. Then the state after the chunk is the memory
-- of that follow run and the scalars expected of the last instance's successor.
abbrev pub ChainAtPredictions : Type 0
ChainAtPredictions = (D scalars : ℕ) (loops : List Loop) (t : Table) (o : Outer) (chunk : Chunk) (xs : List Instance) (k : ℕ) (s : Store) (left : ℕ)
    → IsTable D t → IsNextChunk scalars loops t o chunk → IsOriginal t chunk xs → length s.scalars ≡ scalars → s.locals ≡ [] → left < k
    → (FollowsPrediction (forecast_of t) (run_of_chunk t chunk (turns_trace plain k loops o (unsigned_abs chunk.turns) s) s left) ↔ ((r : Outcome) × Chained t loops o chunk xs s left r))
    × ((r : Outcome) → Chained t loops o chunk xs s left r → Ends (turns_trace plain k loops o (unsigned_abs chunk.turns) s) s left (scalars_at t (behind t chunk)) r)
