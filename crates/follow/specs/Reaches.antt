-- Reaches: where a trace leads, if all that it shows agrees and nothing halts it.
use Rattle.std.specs.Prelude.{ℕ, ◌+◌, List, [], ◌∷◌, Option, Some, None, ◌&&◌, if◌then◌else◌}
use Rattle.nest_lang.specs.Stores.{Store, effect_on}
use Rattle.nest_lang.specs.Traces.{Entry, Halt, Trace}
use Rattle.follow.specs.Forecasts.{all_agree, Forecast}

-- the store at the end, and the steps
pub record Reached : Type 0 where
  pub store : Store
  pub steps : ℕ

abbrev pub plus : ℕ → Option Reached → Option Reached
plus n None = None
plus n (Some r) = Some (record { store = r.store; steps = n + r.steps })

-- on from where something leads
abbrev pub onward : Option Reached → (Store → Option Reached) → Option Reached
onward None go = None
onward (Some r) go = plus r.steps (go r.store)

abbrev pub here : Store → Option Reached
here s = Some (record { store = s; steps = 0 })

abbrev pub reach_by : Forecast → List Entry → Option Halt → Store → Option Reached
reach_by p [] None s = here s
reach_by p [] (Some halt) s = None
reach_by p (e ∷ es) halt s = if all_agree p e.before && all_agree p e.seen then plus 1 (reach_by p es halt (effect_on s e.effect)) else None

-- where a trace from a store leads; None where something that it shows disagrees, or a halt ends it
unfoldable pub reach : Forecast → Trace → Store → Option Reached
reach p t s = reach_by p t.entries t.halt s
