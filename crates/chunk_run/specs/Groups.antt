-- Groups: what one chunk hands to a crew, one entry for each phase.
use Rattle.std.specs.Prelude.{◌≡◌, ◌↔◌, ◌<◌, ◌≤◌, ℕ, suc, ◌+◌, ℤ, false, List, [], ◌∷◌, ◌++◌, length, Option, Some, None, Result, Ok, Err}
use Rattle.std.specs.declared.alloc.AllocError.{AllocError}
use Rattle.core_steps.specs.declared.view.View.{View}
use Rattle.orders.specs.Orders.{Ordered, Differ}
use Rattle.plain_lemmas.specs.Lists.{Has}
use Rattle.domain.specs.Instances.{Instance, padded}
use Rattle.transform.specs.Schedules.{phase}
use Rattle.skeletons.specs.Cells.{Extent, Cell, LiesIn}
use Rattle.tiles.specs.Plans.{KeyLess}
use Rattle.crew.specs.declared.handed.Handed.{Handed}
use Rattle.chunk_run.specs.declared.run.ChunkEnd.{ChunkEnd}
use Rattle.chunk_run.specs.declared.run.ChunkEnd.TheVariants.{Committed, RolledBack}
use Rattle.chunk_run.specs.ChunkEnds.{ArePhaseKeysOf}

-- ---- how many tiles the phases of a chunk have

-- exactly the cells that have an instance of this phase key, each once: the non-empty tiles of the phase
pub record AreTilesAt (e : Extent) (key : List ℤ) (cells : List Cell) : Type 0 where
  pub once : Ordered Differ cells
  pub has : (cell : Cell) → Has cells cell ↔ ((x : Instance) × LiesIn e cell x × (phase e.schedule (padded e.table x) ≡ key))

-- the phase has so many non-empty tiles
pub record HasTiles (e : Extent) (key : List ℤ) (count : ℕ) : Type 0 where
  pub cells : List Cell
  pub are : AreTilesAt e key cells
  pub many : length cells ≡ count

-- and so each of these phases
abbrev pub HaveTiles : Extent → List (List ℤ) → List ℕ → Type 0
HaveTiles e [] [] = Unit {0}
HaveTiles e [] (count ∷ counts) = ⊥
HaveTiles e (key ∷ keys) [] = ⊥
HaveTiles e (key ∷ keys) (count ∷ counts) = HasTiles e key count × HaveTiles e keys counts

-- the numbers of non-empty tiles of a chunk's non-empty phases, by rising phase key
pub record HasTileCounts (e : Extent) (counts : List ℕ) : Type 0 where
  pub keys : List (List ℤ)
  pub rise : Ordered KeyLess keys
  pub are : ArePhaseKeysOf e keys
  pub each : HaveTiles e keys counts

-- a chunk has one list of these numbers
abbrev pub OneTileCounts : Type 0
OneTileCounts = (e : Extent) (counts others : List ℕ) → HasTileCounts e counts → HasTileCounts e others → counts ≡ others

-- ---- entries

-- the entry of a phase of this number and with so many tiles, in a chunk from this turn; its steps are open
pub record IsEntry (first : ℤ) (workers number tiles : ℕ) (h : Handed) : Type 0 where
  pub from : h.first ≡ first
  pub with_workers : h.workers ≡ workers
  pub of_phase : h.phase ≡ number
  pub over_tiles : h.tiles ≡ tiles

-- one entry for each of these numbers of tiles, of phases that are numbered on from `number`
abbrev pub AreEntries : ℤ → ℕ → ℕ → List ℕ → List Handed → Type 0
AreEntries first workers number [] [] = Unit {0}
AreEntries first workers number [] (h ∷ hs) = ⊥
AreEntries first workers number (tiles ∷ counts) [] = ⊥
AreEntries first workers number (tiles ∷ counts) (h ∷ hs) = IsEntry first workers number tiles h × AreEntries first workers (suc number) counts hs

-- the steps of all entries
abbrev pub steps_of : List Handed → ℕ
steps_of [] = 0
steps_of (h ∷ hs) = h.steps + steps_of hs

-- ---- groups

-- an entry for each non-empty phase of a chunk, from 0 in the order of the phase keys; their steps are so many together
pub record IsWholeGroup (e : Extent) (workers steps : ℕ) (group : List Handed) : Type 0 where
  pub counts : List ℕ
  pub has : HasTileCounts e counts
  pub entries : AreEntries e.chunk.first workers 0 counts group
  pub together : steps_of group ≡ steps

-- an entry for each of the first phases, at least one, with any steps
pub record IsBegunGroup (e : Extent) (workers : ℕ) (group : List Handed) : Type 0 where
  pub front : List ℕ
  pub rest : List ℕ
  pub has : HasTileCounts e (front ++ rest)
  pub entries : AreEntries e.chunk.first workers 0 front group
  pub some : 0 < length group

-- the list gained a whole group
pub record GainsWhole (e : Extent) (workers steps : ℕ) (old new : List Handed) : Type 0 where
  pub group : List Handed
  pub gained : new ≡ old ++ group
  pub whole : IsWholeGroup e workers steps group

-- the list gained a group that was begun
pub record GainsBegun (e : Extent) (workers : ℕ) (old new : List Handed) : Type 0 where
  pub group : List Handed
  pub gained : new ≡ old ++ group
  pub begun : IsBegunGroup e workers group

-- a crew's list over the run of a chunk: after a commit it gained every phase, and their steps are the chunk's; after a
-- rollback the first of them; and nothing where memory was wanting
abbrev pub GainsGroup : Extent → ℕ → List Handed → List Handed → Result ChunkEnd AllocError → Type 0
GainsGroup e workers old new (Ok (Committed instances phases tiles steps)) = GainsWhole e workers steps old new
GainsGroup e workers old new (Ok RolledBack) = GainsBegun e workers old new
GainsGroup e workers old new (Err error) = new ≡ old

-- the list gained the entry of a phase of this number and with so many tiles; its steps are these where they are told
pub record GainsPhase (first : ℤ) (workers number tiles : ℕ) (steps : Option ℕ) (old new : List Handed) : Type 0 where
  pub entry : Handed
  pub gained : new ≡ old ++ entry ∷ []
  pub is : IsEntry first workers number tiles entry
  pub told : (n : ℕ) → steps ≡ Some n → entry.steps ≡ n

-- a crew's list over the attempt of a chunk with so many steps left: where it leaves some, the list gained every phase, and
-- their steps are those taken; and else the first of them
abbrev pub AttemptGains : Extent → ℕ → ℕ → Option ℕ → List Handed → List Handed → Type 0
AttemptGains e workers left (Some rest) old new = (steps : ℕ) × (left ≡ steps + rest) × GainsWhole e workers steps old new
AttemptGains e workers left None old new = GainsBegun e workers old new

-- main's view after phases of a chunk: no plan is posted, main has stored nothing, and the epoch rose by one for each entry
-- that a crew's list gained
pub record RunsOn (m n : View) (old new : List Handed) : Type 0 where
  pub unposted : n.posted ≡ false
  pub stored : n.stored ≡ m.stored
  pub early : m.stored ≤ m.epoch
  pub epoch : n.epoch + length old ≡ m.epoch + length new

-- after a commit main's latest store is of an epoch that is at most the one at the start: main has stored nothing since
-- the first post, so the words are what the workers left
abbrev pub StoredBefore : ℕ → ℕ → Result ChunkEnd AllocError → Type 0
StoredBefore epoch stored (Ok (Committed instances phases tiles steps)) = stored ≤ epoch
StoredBefore epoch stored (Ok RolledBack) = Unit {0}
StoredBefore epoch stored (Err error) = Unit {0}
