-- Machines: what a run works on, as a moment of it.
use Rattle.std.specs.Prelude.{◌≡◌, ◌+◌, ◌*◌, ◌≤◌, ◌^◌, ℕ, ℤ, pos, unsigned_abs, List, [], ◌++◌, length, false, Result, Ok, Err}
use Rattle.std.specs.List.{All}
use Rattle.nest_lang.specs.declared.budget.Budget.{Budget}
use Rattle.nest_lang.specs.declared.budget.Ending.{Ending}
use Rattle.nest_lang.specs.declared.state.Outer.{Outer}
use Rattle.nest_lang.specs.Traces.{Finish}
use Rattle.nest_lang.specs.Runs.{finish_of_ending}
use Rattle.controller.specs.declared.machine.Place.{Place}
use Rattle.nest_lang.specs.Stores.{store_of}
use Rattle.nest_lang.specs.declared.tree.Loop.{Loop}
use Rattle.nest_lang.specs.Rules.{NestKeeps}
use Rattle.nest_lang.specs.Turns.{IsPositionIn, turns_later}
use Rattle.std.specs.declared.alloc.AllocError.{AllocError}
use Rattle.skeletons.specs.Cells.{Extent}
use Rattle.chunk_run.specs.declared.run.ChunkEnd.{ChunkEnd}
use Rattle.chunk_run.specs.declared.run.ChunkEnd.TheVariants.{Committed, RolledBack}
use Rattle.chunk_run.specs.ChunkEnds.{Between, IsCommitted, IsRolledBack, between}
use Rattle.crew.specs.declared.handed.Handed.{Handed}
use Rattle.shared_words.specs.Memories.{signed}
use Rattle.shared_words.specs.Seats.{SeatState}
use Rattle.atomic_table.specs.Seated.{TableId}
use Rattle.profile.specs.Reach.{HasI64s, IsOfI64s}
use Rattle.journeys.specs.Settings.{Moment, Setting}
use Rattle.journeys.specs.HandedRecords.{Launched, IsHandedRecord}

-- the moment of a machine: the words that its seat shows, its scalars, its steps, and the position of the outermost loop
abbrev pub moment_of : SeatState → List ℤ → Place → Moment
moment_of main scalars place = record { outer = place.outer; store = store_of (signed main.view.base) scalars []; left = place.steps.left; used = place.steps.used }

-- so many phases were posted on the words, and each has so many workers
pub record Posts : Type 0 where
  pub epoch : ℕ
  pub workers : ℕ

-- what contracts see of a machine
pub record MachineState : Type 0 where
  pub moment : Moment
  pub posts : Posts

abbrev pub state_of : SeatState → List ℤ → Place → ℕ → MachineState
state_of main scalars place workers = record { moment = moment_of main scalars place; posts = record { epoch = main.view.epoch; workers = workers } }

-- the outermost loop was entered at a position, or the run finished so at its head
abbrev pub entered_or_ended : Result (Unit {0}) Ending → Outer → Result Outer Finish
entered_or_ended (Ok entered) outer = Ok outer
entered_or_ended (Err ending) outer = Err (finish_of_ending ending)

-- the seat is one of the words, and no plan is posted; there are at most 16 scalars, at most 2^32 steps, and 1 to 64 workers
pub record IsMachine (words : TableId) (main : SeatState) (scalars : List ℤ) (steps : Budget) (workers : ℕ) : Type 0 where
  pub table : main.table ≡ words
  pub unposted : main.view.posted ≡ false
  pub few : length scalars ≤ 16
  pub most : steps.left + steps.used ≤ 2 ^ 32
  pub workers_from : 1 ≤ workers
  pub workers_to : workers ≤ 64

-- a run of a nest that keeps the rules and whose numbers are i64s stands at a position of its outermost loop, with a store
-- of i64s; there are as many scalars as in the file, at most 2^32 steps, and no more turns were done than steps were taken
pub record IsPlaced (g : Setting) (m : Moment) : Type 0 where
  pub keeps : NestKeeps g.scalars g.loops
  pub numbers : All HasI64s g.loops
  pub fits : IsOfI64s m.store
  pub most : m.left + m.used ≤ 2 ^ 32
  pub position : IsPositionIn g.loops m.outer
  pub count : length m.store.scalars ≡ g.scalars
  pub turn : ℕ
  pub next : m.outer.next ≡ pos turn
  pub taken : turn ≤ m.used

-- a moment as the state between two turns
abbrev pub between_at : Moment → Between
between_at m = between m.store.memory m.store.scalars (record { left = m.left; used = m.used })

-- a chunk was run from a moment: it was committed, and the outermost loop stands behind it; or it was rolled back, or memory
-- was wanting, and all is as before
abbrev pub HasRun : Extent → List Loop → Moment → Moment → Result ChunkEnd AllocError → Type 0
HasRun e loops m after (Ok (Committed instances phases tiles steps)) =
    IsCommitted e loops m.outer (between_at m) (between_at after) instances phases tiles steps × (after.outer ≡ turns_later m.outer (unsigned_abs e.chunk.turns))
HasRun e loops m after (Ok RolledBack) = IsRolledBack e loops m.outer (between_at m) (between_at m) × (after ≡ m)
HasRun e loops m after (Err error) = after ≡ m

-- an entry was handed over for each phase that was posted
pub record HavePosted (from to : Posts) (old new : List Handed) : Type 0 where
  pub workers : to.workers ≡ from.workers
  pub epoch : to.epoch + length old ≡ from.epoch + length new

-- these chunks were launched: a crew's list grew by their handed record, and by an entry for each phase that was posted
pub record HandsOver (chunks : List Launched) (from to : Posts) (old new : List Handed) : Type 0 where
  pub list : List Handed
  pub gained : new ≡ old ++ list
  pub is : IsHandedRecord from.workers chunks list
  pub posted : HavePosted from to old new

-- how far the epoch may come: each chunk has at most 65,536 phases, and each step that is left leads to at most three stages
abbrev pub reach_of : MachineState → ℕ
reach_of a = a.posts.epoch + 65536 * (3 * a.moment.left)
