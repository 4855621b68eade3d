-- Examples of journeys, computed by hand.
use Rattle.std.specs.Prelude.{◌≡◌, ℕ, pos, List, [], ◌∷◌, Some, None, refl}
use Rattle.std.proofs.Common.{lit<}
use Rattle.nest_lang.specs.declared.tree.Expr.{Expr}
use Rattle.nest_lang.specs.declared.tree.Head.TheVariants.{For}
use Rattle.nest_lang.specs.declared.tree.Loop.{Loop}
use Rattle.nest_lang.specs.Stores.{Store}
use Rattle.nest_lang.specs.Traces.{Done, Limited, cut_of}
use Rattle.nest_grammar.specs.declared.file.File.{File}
use Rattle.nest_grammar.specs.declared.version.Version.TheVariants.{One, Two}
use Rattle.follow_chunk.specs.Laws.{one_row}
use Rattle.legality.specs.declared.refusals.Refusal.{Refusal}
use Rattle.skeletons.specs.Cells.{Extent}
use Rattle.crew.specs.declared.handed.Handed.{Handed}
use Rattle.chunk_run.specs.declared.run.ChunkEnd.TheVariants.{Committed, RolledBack}
use Rattle.chunk_run.specs.Groups.{HasTileCounts}
use Rattle.report.specs.declared.journey.Options.{Options}
use Rattle.report.specs.declared.line.Line.TheVariants as said
use Rattle.journeys.specs.Settings.{Setting, turns_within, entry}
use Rattle.journeys.specs.Tellings.{heading, illegal_line, illegal_lines}
use Rattle.journeys.specs.Journeys.{IsNestJourney, IsJourneyOf}
use Rattle.journeys.specs.HandedRecords.{IsHandedRecord}
use Rattle.journeys.specs.Laws.{IsRunnable}
use Rattle.journeys.specs.Journeys.IsNestJourney.{not_entered}

-- a chunk has 32 turns, or the five that are left of a `for`
pub five_turns_left : turns_within (Some 5) 32 ≡ 5
five_turns_left = refl

pub no_end_known : turns_within None 32 ≡ 32
no_end_known = refl

-- two refused candidates are the first and the second
pub refused_in_order : (loops : List Loop) (a b : Refusal) → illegal_lines loops 1 (a ∷ b ∷ []) ≡ illegal_line loops 1 a ∷ illegal_line loops 2 b ∷ []
refused_in_order loops a b = refl

-- a nest of version 2 is told, and that of version 1 isn't
pub second_nest_told : heading Two 2 ≡ said.Nest 2 ∷ []
second_nest_told = refl

pub one_nest_not_told : heading One 1 ≡ []
one_nest_not_told = refl

-- a `for` of these bounds, with nothing in it
abbrev pub empty_for : Expr → Expr → Setting
empty_for lower upper = record { loops = record { head = For lower upper (pos 1); pre = []; post = [] } ∷ []; scalars = 0; candidates = []; sample = 4; chunk = 32 }

-- with no step at all the head of a `for` is limited, and there is no line
pub no_step_at_all : (lower upper : Expr) (s : Store) → IsNestJourney (empty_for lower upper) s 0 0 [] (cut_of s 0 0 Limited)
unfolding entry
no_step_at_all lower upper s = not_entered Limited refl

-- behind the last nest nothing is told
pub behind_the_last : (options : Options) (s : Store) (left used : ℕ) → IsJourneyOf options Two 0 [] 3 s left used [] (cut_of s left used Done)
behind_the_last options s left used = (refl, refl)

-- a file of 40 words and one nest, for i = 0 below 40 { [i] = 1 }
abbrev pub one_row_file : File
one_row_file = record { version = One; scalars = []; words = 40; items = []; units = record { nest = record { loops = one_row }; names = []; scripts = [] } ∷ [] }

-- the premises of the law on journeys can be met
abbrev pub PremisesCanHold : Type 0
PremisesCanHold = IsRunnable (record { workers = 4; chunk = pos 32; sample = pos 4; steps = 1000000 }) one_row_file

-- ---- handed records

-- nothing is handed over where no chunk was launched
pub nothing_launched : IsHandedRecord 4 [] []
nothing_launched = refl

-- an entry of a chunk whose first turn is 7, for 4 workers
abbrev pub entry_of : ℕ → ℕ → ℕ → Handed
entry_of number tiles steps = record { first = pos 7; phase = number; workers = 4; tiles = tiles; steps = steps }

-- a chunk of two phases, with one tile and with two: where it is committed with 5 steps, each phase is handed over, with 5 steps
-- together; where it is rolled back, its first one may be alone, with any steps
pub commit_and_rollback : (e : Extent) → pos 7 ≡ e.chunk.first → HasTileCounts e (1 ∷ 2 ∷ [])
    → IsHandedRecord 4 (record { extent = e; end = Committed 3 2 3 5 } ∷ record { extent = e; end = RolledBack } ∷ []) (entry_of 0 1 2 ∷ entry_of 1 2 3 ∷ entry_of 0 1 9 ∷ [])
commit_and_rollback e first has = (
  entry_of 0 1 2 ∷ entry_of 1 2 3 ∷ [],
  entry_of 0 1 9 ∷ [],
  record {
    counts = 1 ∷ 2 ∷ [];
    has = has;
    entries = (record { from = first; with_workers = refl; of_phase = refl; over_tiles = refl }, (record { from = first; with_workers = refl; of_phase = refl; over_tiles = refl }, tt));
    together = refl;
  },
  (
    entry_of 0 1 9 ∷ [],
    [],
    record { front = 1 ∷ []; rest = 2 ∷ []; has = has; entries = (record { from = first; with_workers = refl; of_phase = refl; over_tiles = refl }, tt); some = lit< tt },
    refl,
    refl,
  ),
  refl,
)
