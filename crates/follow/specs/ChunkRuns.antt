-- Chunk runs: what is observed of some turns of a nest, and how they end.
use Rattle.std.specs.Prelude.{ℕ, ◌≤◌, ℤ, List, [], ◌∷◌, ◌++◌}
use Rattle.nest_lang.specs.declared.tree.Head.{Head}
use Rattle.nest_lang.specs.declared.tree.Head.TheVariants.{For, While}
use Rattle.nest_lang.specs.declared.tree.Loop.{Loop}
use Rattle.nest_lang.specs.declared.state.Outer.{Outer}
use Rattle.nest_lang.specs.Stores.{Store}
use Rattle.nest_lang.specs.Lookups.{plain}
use Rattle.nest_lang.specs.Traces.{Occurrence, Observation, Trace, Finish, Done, Halted, Limited, cut, seen_in}
use Rattle.nest_lang.specs.Statements.{scalars_from}
use Rattle.nest_lang.specs.Turns.{number_left}
use Rattle.follow.specs.Plans.{frame_with}

-- the outermost loop has so many turns left, where it is a `for`
abbrev pub HasTurns : Head → Outer → ℕ → Type 0
HasTurns (For lower upper stride) o c = c ≤ number_left o.left
HasTurns (While condition) o c = Unit {0}

abbrev pub HasTurnsIn : List Loop → Outer → ℕ → Type 0
HasTurnsIn [] o c = Unit {0}
HasTurnsIn (l ∷ ls) o c = HasTurns l.head o c

-- the scalars, observed as those that an instance begins with
abbrev pub scalars_seen : Occurrence → List ℤ → List Observation
scalars_seen at scalars = scalars_from (frame_with at [] plain) 0 scalars

-- what is observed of some turns, in order, and how they finish
pub record ChunkRun : Type 0 where
  pub observations : List Observation
  pub finish : Finish

-- after all the turns come the closing scalars: those that the next turn's first instance begins with
abbrev pub closing_at : Occurrence → Finish → List ℤ → List Observation
closing_at at Done scalars = scalars_seen at scalars
closing_at at (Halted halt) scalars = []
closing_at at Limited scalars = []

-- the run of turns of this trace from a store, cut where the steps that are left end. The scalars of an instance
-- that is due at the cut are still observed.
abbrev pub chunk_run : Occurrence → Trace → Store → ℕ → ChunkRun
chunk_run next t s left = record {
  observations = seen_in t left ++ closing_at next (cut t s left 0).ending (cut t s left 0).store.scalars;
  finish = (cut t s left 0).ending;
}
