-- The plan of a chunk: its cells in phases, what the instances of each touch, and the stripes of their stores.
use Rattle.std.specs.Prelude.{◌≡◌, ◌↔◌, ◌≤◌, ◌^◌, ℕ, ℤ, pos, ◌≤ℤ◌, List, [], ◌∷◌, ◌++◌, map, length}
use Rattle.std.specs.List.{All, Contains, flat_map}
use Rattle.std.specs.Ordering.{int_cmp}
use Rattle.std.specs.declared.cmp.Ordering.TheVariants.{Less}
use Rattle.std.specs.Cmp.Lexicographic.{slice_cmp}
use Rattle.core_steps.specs.declared.plan.Plan.{Plan}
use Rattle.core_steps.specs.declared.plan.Tile.{Tile}
use Rattle.core_steps.specs.Plans.{IsSeparate, IsInside}
use Rattle.tiles.specs.declared.stripe.Stripe.{Stripe}
use Rattle.tiles.specs.Stripes.{IsWithin, addresses_of_all}
use Rattle.orders.specs.Orders.{Ordered}
use Rattle.plain_lemmas.specs.Lists.{Has}
use Rattle.domain.specs.declared.chunk.Chunk.{Chunk}
use Rattle.domain.specs.Tables.{Table, depth}
use Rattle.domain.specs.Instances.{Instance, Predicted}
use Rattle.domain.specs.Footprints.{Reads, Writes, IsListOf}
use Rattle.domain.specs.Launches.{IsLaunched}
use Rattle.transform.specs.Schedules.{Schedule}
use Rattle.dependence.specs.Legality.{Legal}
use Rattle.skeletons.specs.Cells.{Cell, Extent, LiesIn, AreCellsOf}
use Rattle.skeletons.specs.Runs.{Run, HasRuns}
use Rattle.tiles.specs.Strips.{stores_of_run, strip_of}

-- a chunk of 1 to 1,024 turns, from a turn from 0 to 2^32, that is launched over so many words, and a schedule that is legal
-- for some number of turns from the chunk's to 1,024
pub record IsPlannable (t : Table) (s : Schedule) (chunk : Chunk) (words : ℕ) : Type 0 where
  pub first : pos 0 ≤ℤ chunk.first
  pub far : chunk.first ≤ℤ pos (2 ^ 32)
  pub some : pos 1 ≤ℤ chunk.turns
  pub instances : ℕ
  pub launched : IsLaunched t (pos words) chunk instances
  pub most : ℤ
  pub turns : chunk.turns ≤ℤ most
  pub few : most ≤ℤ pos 1024
  pub legal : Legal t s most

-- a phase: its cells, one a tile, and the plan of what these touch
pub record Phase : Type 0 where
  pub cells : List Cell
  pub plan : Plan

-- the plan of a chunk: its phases in the order in which they run, how many instances and tiles these have, and the stripes
-- of what is kept before the first of them runs
pub record ChunkPlan : Type 0 where
  pub phases : List Phase
  pub instances : ℕ
  pub tiles : ℕ
  pub stripes : List Stripe

-- the cells of all phases, one phase after another
abbrev pub cells_of : List Phase → List Cell
cells_of phases = flat_map (λ (phase : Phase). phase.cells) phases

-- ---- phases

-- the phase key of a cell
abbrev pub phase_key : Cell → List ℤ
phase_key cell = cell.lead ++ cell.wave ∷ []

abbrev pub KeyLess : List ℤ → List ℤ → Type 0
KeyLess key other = slice_cmp int_cmp key other ≡ Less

-- the phase has a cell, and its cells have one key
pub record IsOnePhase (phase : Phase) : Type 0 where
  pub some : 1 ≤ length phase.cells
  pub one : (c d : Cell) → Has phase.cells c → Has phase.cells d → phase_key c ≡ phase_key d

-- the key of the one phase is less than that of the other
abbrev pub PhaseComes : Phase → Phase → Type 0
PhaseComes phase later = (c d : Cell) → Has phase.cells c → Has later.cells d → KeyLess (phase_key c) (phase_key d)

-- ---- what a tile touches: the words that the instances of its cell read, and the addresses that they write

pub record CellReads (e : Extent) (words : ℕ) (cell : Cell) (address : ℤ) : Type 0 where
  pub at : Instance
  pub lies : LiesIn e cell at
  pub reads : Reads e.table (pos words) at address

pub record CellWrites (e : Extent) (cell : Cell) (address : ℤ) : Type 0 where
  pub at : Instance
  pub lies : LiesIn e cell at
  pub writes : Writes e.table at address

-- exactly these addresses, in order, each once
pub record IsTileOf (e : Extent) (words : ℕ) (cell : Cell) (tile : Tile) : Type 0 where
  pub reads : IsListOf (CellReads e words cell) tile.reads
  pub writes : IsListOf (CellWrites e cell) tile.writes

-- one tile for each cell, in their order
abbrev pub AreTilesOf : Extent → ℕ → List Cell → List Tile → Type 0
AreTilesOf e words [] [] = Unit {0}
AreTilesOf e words [] (tile ∷ tiles) = ⊥
AreTilesOf e words (cell ∷ cells) [] = ⊥
AreTilesOf e words (cell ∷ cells) (tile ∷ tiles) = IsTileOf e words cell tile × AreTilesOf e words cells tiles

-- each phase has one key, and its plan a tile for each of its cells; no tile writes what another one touches, and all of
-- them keep to the words
pub record IsPhaseOf (e : Extent) (words : ℕ) (phase : Phase) : Type 0 where
  pub one : IsOnePhase phase
  pub tiles : AreTilesOf e words phase.cells phase.plan.tiles
  pub separate : IsSeparate phase.plan
  pub inside : IsInside words phase.plan

-- ---- stripes: one for each run of a cell, each store of its block that has a form, and each offset of its tube

-- the runs of each of these cells
abbrev pub HaveRuns : Extent → List Cell → List (List Run) → Type 0
HaveRuns e [] [] = Unit {0}
HaveRuns e [] (runs ∷ more) = ⊥
HaveRuns e (cell ∷ cells) [] = ⊥
HaveRuns e (cell ∷ cells) (runs ∷ more) = HasRuns (depth e.table) e cell runs × HaveRuns e cells more

-- the stripes of some cells, in the order of these, of their runs, of the accesses and of the offsets
pub record AreStripesOf (e : Extent) (cells : List Cell) (stripes : List Stripe) : Type 0 where
  pub runs : List (List Run)
  pub have : HaveRuns e cells runs
  pub strips : map strip_of stripes ≡ flat_map (flat_map (stores_of_run e.table)) runs

-- a predicted instance of the chunk writes the address
pub record ChunkWrites (e : Extent) (address : ℤ) : Type 0 where
  pub at : Instance
  pub predicted : Predicted e.table e.chunk at
  pub writes : Writes e.table at address

-- ---- the plan

-- the plan of a chunk over so many words: exactly its cells that have an instance, in order, by phases whose keys rise; what
-- each of them touches; how many instances the launched chunk has, and how many tiles; the stripes of its cells, whose
-- addresses are exactly those that the chunk writes
pub record IsPlanOf (e : Extent) (words : ℕ) (p : ChunkPlan) : Type 0 where
  pub cells : AreCellsOf e (cells_of p.phases)
  pub phases : All (IsPhaseOf e words) p.phases
  pub rise : Ordered PhaseComes p.phases
  pub instances : IsLaunched e.table (pos words) e.chunk p.instances
  pub tiles : p.tiles ≡ length (cells_of p.phases)
  pub few : p.tiles ≤ 65536
  pub stripes : AreStripesOf e (cells_of p.phases) p.stripes
  pub within : All (IsWithin words) p.stripes
  pub stores : (address : ℕ) → Contains (addresses_of_all p.stripes) address ↔ ChunkWrites e (pos address)
