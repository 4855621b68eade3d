-- The instances of a task, as what runs on words.
use Rattle.std.specs.Prelude.{ℕ, List}
use Rattle.nest_lang.specs.declared.tree.Loop.{Loop}
use Rattle.nest_lang.specs.declared.state.Outer.{Outer}
use Rattle.domain.specs.Tables.{Table}
use Rattle.domain.specs.Instances.{Instance}
use Rattle.orders.specs.Runs.{Machine}
use Rattle.orders.specs.Tiles.{named}
use Rattle.follow.specs.Footprints.{follow_machine}
use Rattle.follow_chunk.specs.Predicted.{forecast_of}
use Rattle.follow_chunk.specs.Items.{item_at, scalars_after}
use Rattle.verified_turns.specs.Laws.{PhaseLaw}
use Rattle.follow_chunk.specs.Followed.{ClosesSmall}

-- instances of a nest by what a table predicts of them, over so many words: each with its footprint, and with its follow
-- run, which is expected to leave the scalars that its successor begins with
abbrev pub instances : Table → List Loop → Outer → ℕ → Machine Instance
instances t loops o words = named (item_at t loops o) (follow_machine (forecast_of t) (scalars_after t) words)

-- the law of a phase holds of them; of each instance that was followed, the scalars that its successor begins with are i64s
abbrev pub InstancesKeepPhases : Type 0
InstancesKeepPhases = (t : Table) (loops : List Loop) (o : Outer) (words : ℕ) → PhaseLaw (instances t loops o words) (ClosesSmall t)
