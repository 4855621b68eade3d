-- Alike: two forecasts that expect the same of an instance.
use Rattle.std.specs.Prelude.{◌≡◌, ℤ, List}
use Rattle.nest_lang.specs.declared.tree.Access.{Access}
use Rattle.nest_lang.specs.declared.tree.Head.{Head}
use Rattle.nest_lang.specs.declared.tree.Head.TheVariants.{For, While}
use Rattle.nest_lang.specs.Traces.{Occurrence}
use Rattle.plain_lemmas.specs.Lists.{Has}
use Rattle.follow.specs.Forecasts.{expects_turn, Forecast}
use Rattle.follow.specs.Plans.{Item, Work, Runs, Evaluates}
use Rattle.follow.specs.FollowRuns.{follow_one}
use Rattle.follow.specs.Footprints.{work_accesses}

-- they expect the same of a head: of a `for` its lower bound and its trip, of a `while` its condition
abbrev pub HeadsAlike : Forecast → Forecast → Occurrence → Head → Type 0
HeadsAlike p q at (For lower upper stride) = (p.lower at ≡ q.lower at) × (p.trip at.block at.counters ≡ q.trip at.block at.counters)
HeadsAlike p q at (While condition) = expects_turn p at ≡ expects_turn q at

-- the statements of a block yield nothing
abbrev pub YieldsAlike : Forecast → Forecast → Occurrence → Work → Type 0
YieldsAlike p q at (Runs first rest) = Unit {0}
YieldsAlike p q at (Evaluates head) = HeadsAlike p q at head

-- they expect the same of an instance: its scalars as it begins, the interval of each of its accesses, and what its head
-- yields
pub record ExpectAlike (p q : Forecast) (i : Item) : Type 0 where
  pub scalars : p.scalars i.at ≡ q.scalars i.at
  pub intervals : (access : Access) → Has (work_accesses i.work) access → p.interval i.at access.number ≡ q.interval i.at access.number
  pub yields : YieldsAlike p q i.at i.work

-- what an instance gives depends on what is expected of it alone, and on the scalars that are expected after it
abbrev pub FollowsAlike : Type 0
FollowsAlike =
    (p q : Forecast) (first second : Item → List ℤ) (i : Item) (m : List ℤ) → ExpectAlike p q i → first i ≡ second i
    → follow_one p first i m ≡ follow_one q second i m
