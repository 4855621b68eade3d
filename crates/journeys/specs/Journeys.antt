-- Journeys: what the run of a file's nests does and tells.
use Rattle.std.specs.Prelude.{◌≡◌, ◌+◌, ◌-◌, min, ℕ, suc, List, [], ◌∷◌, ◌++◌, length, Ok, Err}
use Rattle.nest_lang.specs.declared.state.Outer.{Outer}
use Rattle.nest_lang.specs.Stores.{Store}
use Rattle.nest_lang.specs.Traces.{Finish, Done, Halted, Limited, Cut, cut_of}
use Rattle.nest_lang.specs.Turns.{entry_steps}
use Rattle.nest_grammar.specs.declared.file.File.{File}
use Rattle.nest_grammar.specs.declared.file.NestUnit.{NestUnit}
use Rattle.nest_grammar.specs.declared.version.Version.{Version}
use Rattle.nest_grammar.specs.Files.{first_store}
use Rattle.report.specs.declared.journey.Options.{Options}
use Rattle.report.specs.declared.line.Line.{Line}
use Rattle.journeys.specs.Settings.{Setting, Moment, entry, setting_of}
use Rattle.journeys.specs.Stages.{Profiles, Over, Reaches}
use Rattle.journeys.specs.Tellings.{heading}

-- the moment in which the outermost loop is entered at a position
abbrev pub entered_at : Setting → Outer → Store → ℕ → ℕ → Moment
entered_at g o s left used = record { outer = o; store = s; left = left - entry_steps g.loops; used = used + min (entry_steps g.loops) left }

-- the lines of a nest from a store with so many steps left and used, and where its run ends
pub data IsNestJourney (g : Setting) (s : Store) (left used : ℕ) : List Line → Cut → Type 0 where
  -- Where the head of the outermost `for` traps or is limited, there is no line.
  not_entered : (finish : Finish) → entry g.loops s left ≡ Err finish
      → IsNestJourney g s left used [] (cut_of s (left - entry_steps g.loops) (used + min (entry_steps g.loops) left) finish)
  -- Else a profile comes first, and all that follows up to the end.
  entered : (o : Outer) (lines : List Line) (finish : Finish) (end : Moment) → entry g.loops s left ≡ Ok o
      → Reaches g Profiles (entered_at g o s left used) lines (Over finish) end
      → IsNestJourney g s left used lines (cut_of end.store end.left end.used finish)

-- the next nest is run exactly where a nest has ended
abbrev pub where_ended : Finish → Type 0 → Type 0 → Type 0
where_ended Done follows stays = follows
where_ended (Halted halt) follows stays = stays
where_ended Limited follows stays = stays

-- the lines of nests, the first of which has that number, from a store with so many steps left and used, and where their run
-- ends: each nest from where the one before it ended
abbrev pub IsJourneyOf : Options → Version → ℕ → List NestUnit → ℕ → Store → ℕ → ℕ → List Line → Cut → Type 0
IsJourneyOf options version scalars [] number s left used lines end = (lines ≡ []) × (end ≡ cut_of s left used Done)
IsJourneyOf options version scalars (unit ∷ units) number s left used lines end =
    (own : List Line) × (rest : List Line) × (here : Cut) × IsNestJourney (setting_of options scalars unit) s left used own here
    × where_ended here.ending (IsJourneyOf options version scalars units (suc number) here.store here.left here.used rest end) ((rest ≡ []) × (end ≡ here))
    × (lines ≡ heading version number ++ (own ++ rest))

-- the journey of a file with these options: its lines, and where its run ends
abbrev pub IsJourney : Options → File → List Line → Cut → Type 0
IsJourney options file lines end = IsJourneyOf options file.version (length file.scalars) file.units 1 (first_store file) options.steps 0 lines end
