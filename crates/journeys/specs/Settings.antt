-- Settings: what a nest is run with, and some turns of its plain run.
use Rattle.std.specs.Prelude.{◌≡◌, ◌<◌, ℕ, ℤ, pos, min, unsigned_abs, List, [], ◌∷◌, length, Option, Some, None, Result, Ok, Err, true}
use Rattle.std.specs.List.{filter_map}
use Rattle.nest_lang.specs.declared.command.Command.{Command}
use Rattle.nest_lang.specs.declared.tree.Head.{Head}
use Rattle.nest_lang.specs.declared.tree.Head.TheVariants.{For, While}
use Rattle.nest_lang.specs.declared.tree.Loop.{Loop}
use Rattle.nest_lang.specs.declared.tree.Part.TheVariants as part
use Rattle.nest_lang.specs.declared.state.Outer.{Outer}
use Rattle.nest_lang.specs.Stores.{Store}
use Rattle.nest_lang.specs.Lookups.{plain}
use Rattle.nest_lang.specs.Traces.{Trace, Halt, Finish, Done, Halted, Limited, Observation, cut, cut_of, seen_in}
use Rattle.nest_lang.specs.Heads.{Yield, Tested, head_of}
use Rattle.nest_lang.specs.Loops.{outside, frame_of}
use Rattle.nest_lang.specs.Turns.{turns_trace, turns_later, first_position, AreWhole}
use Rattle.nest_grammar.specs.declared.file.NestUnit.{NestUnit}
use Rattle.block_exec.specs.Moments.{where_left}
use Rattle.transform.specs.Schedules.{Schedule}
use Rattle.transform.specs.Scripts.{schedule_of}
use Rattle.transform.specs.Standards.{standard_scripts}
use Rattle.domain.specs.declared.chunk.Chunk.{Chunk}
use Rattle.profile.specs.Sampled.{observations_in}
use Rattle.profile.specs.FirstProfiles.{turns_from}
use Rattle.report.specs.declared.journey.Options.{Options}

-- what a nest is run with: its loops, in a file with so many scalars; its candidates; the turns of a profile, and those of
-- a chunk
pub record Setting : Type 0 where
  pub loops : List Loop
  pub scalars : ℕ
  pub candidates : List Schedule
  pub sample : ℕ
  pub chunk : ℕ

-- the candidates' scripts: those of the nest, or the standard ones where it has none
abbrev pub candidate_scripts : ℕ → List (List Command) → List (List Command)
candidate_scripts depth [] = standard_scripts depth
candidate_scripts depth (script ∷ scripts) = script ∷ scripts

-- each script of a file keeps the rules, and so does each standard one
abbrev pub candidates : ℕ → List (List Command) → List Schedule
candidates depth scripts = filter_map (schedule_of depth) (candidate_scripts depth scripts)

abbrev pub setting_of : Options → ℕ → NestUnit → Setting
setting_of options scalars unit = record {
  loops = unit.nest.loops;
  scalars = scalars;
  candidates = candidates (length unit.nest.loops) unit.scripts;
  sample = unsigned_abs options.sample;
  chunk = unsigned_abs options.chunk;
}

-- ---- moments

-- where a run stands between two turns: the position of the outermost loop, the store, and the steps left and used
pub record Moment : Type 0 where
  pub outer : Outer
  pub store : Store
  pub left : ℕ
  pub used : ℕ

-- so many turns, or what is left of a `for`
abbrev pub turns_within : Option ℕ → ℕ → ℕ
turns_within None c = c
turns_within (Some n) c = min n c

-- the next c turns of the plain run from a moment on, where each `while` inside has at most k turns
abbrev pub plain_turns : Setting → ℕ → Moment → ℕ → Store → Trace
plain_turns g k m c = turns_trace plain k g.loops m.outer c

-- c turns were run in original order from a moment: so many of them were done whole, the run finished so, and stands at this
-- moment then. No `while` has more turns than there are steps.
pub record Ran (g : Setting) (m : Moment) (c done : ℕ) (finish : Finish) (after : Moment) : Type 0 where
  pub whole : (k : ℕ) → m.left < k → AreWhole (plain_turns g k m) m.store m.left c done
  pub cut : (k : ℕ) → m.left < k → cut_of after.store after.left after.used finish ≡ cut (plain_turns g k m c m.store) m.store m.left m.used
  pub outer : after.outer ≡ turns_later m.outer done

-- the next c turns, as far as the steps lead
abbrev pub next_turns : Setting → Moment → ℕ → Trace
next_turns g m c = turns_from g.loops m.left m.outer c m.store

-- what is observed in these turns
abbrev pub observed : Setting → Moment → ℕ → List Observation
observed g m c = observations_in (seen_in (next_turns g m c) m.left)

-- the turns of a profile and of a chunk, or what is left of a `for`
abbrev pub profile_turns : Setting → Moment → ℕ
profile_turns g m = turns_within m.outer.left g.sample

abbrev pub chunk_turns : Setting → Moment → ℕ
chunk_turns g m = turns_within m.outer.left g.chunk

abbrev pub next_chunk : Setting → Moment → Chunk
next_chunk g m = record { first = m.outer.next; turns = pos (chunk_turns g m) }

-- the words that there are
abbrev pub words_at : Moment → ℤ
words_at m = pos (length m.store.memory)

-- ---- the outermost loop is entered

-- by what its head yields, where a step was left for it: a position, or how the run finishes
abbrev pub entry_by : Option (Result Yield Halt) → Result Outer Finish
entry_by None = Err Limited
entry_by (Some (Err halt)) = Err (Halted halt)
entry_by (Some (Ok yield)) = Ok (first_position yield)

-- the head of a `for` is evaluated, and that of a `while` isn't before its first turn
abbrev pub entry_at : Head → Store → ℕ → Result Outer Finish
entry_at (For lower upper stride) s left = entry_by (where_left left (head_of (frame_of plain part.Head 1 outside) (For lower upper stride) s).value)
entry_at (While condition) s left = Ok (first_position (Tested true))

unfoldable pub entry : List Loop → Store → ℕ → Result Outer Finish
entry [] s left = Err Done
entry (l ∷ ls) s left = entry_at l.head s left
