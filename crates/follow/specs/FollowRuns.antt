-- Follow runs: listed instances, one after another, each from its expected scalars.
use Rattle.std.specs.Prelude.{ℤ, List, [], ◌∷◌, Option, Some, None, if◌then◌else◌}
use Rattle.nest_lang.specs.Stores.{store_of}
use Rattle.orders.specs.Runs.{Outcome, and_then}
use Rattle.orders.specs.Chains.{State, Turns}
use Rattle.follow.specs.Forecasts.{same_all, Forecast}
use Rattle.follow.specs.Reaches.{reach, Reached}
use Rattle.follow.specs.Plans.{item_trace, Item}

abbrev pub state_of : Option Reached → Option State
state_of None = None
state_of (Some r) = Some (record { memory = r.store.memory; scalars = r.store.scalars; steps = r.steps })

-- where an instance leads from these scalars and words
abbrev pub item_step : Forecast → Item → List ℤ → List ℤ → Option State
item_step p i scalars m = state_of (reach p (item_trace p i (store_of m scalars [])) (store_of m scalars []))

-- the words and the steps, where the scalars are these
abbrev pub ended_with : List ℤ → Option State → Option Outcome
ended_with scalars None = None
ended_with scalars (Some r) = if same_all r.scalars scalars then Some (record { memory = r.memory; steps = r.steps }) else None

-- one instance from its expected scalars: the words after it and its steps. It is None where an observation
-- doesn't agree, an access has no expected interval, the instance traps, or a scalar at its end differs from what is
-- expected after it.
abbrev pub follow_one : Forecast → (Item → List ℤ) → Item → List ℤ → Option Outcome
follow_one p after i m = ended_with (after i) (item_step p i (p.scalars i.at) m)

-- the instances of a list, one after another: the words after the last and all their steps, or None
abbrev pub follow_run : Forecast → (Item → List ℤ) → List Item → List ℤ → Option Outcome
follow_run p after [] m = Some (record { memory = m; steps = 0 })
follow_run p after (i ∷ is) m = and_then (follow_one p after i m) (follow_run p after is)

-- the same as turns that hand their scalars on
abbrev pub item_turns : Forecast → (Item → List ℤ) → Turns Item
item_turns p after = record { same = same_all; before = λ i. p.scalars i.at; after = after; step = item_step p }
