-- Laws of the fit of what some turns of a nest show.
use Rattle.std.specs.Prelude.{◌≡◌, ◌<◌, ◌≤◌, ◌+◌, ◌^◌, ℕ, pos, List, length}
use Rattle.std.specs.List.{All}
use Rattle.nest_lang.specs.declared.tree.Loop.{Loop}
use Rattle.nest_lang.specs.declared.state.Outer.{Outer}
use Rattle.nest_lang.specs.Lookups.{plain}
use Rattle.nest_lang.specs.Rules.{NestKeeps}
use Rattle.nest_lang.specs.Stores.{Store}
use Rattle.nest_lang.specs.Traces.{Observation, seen_in}
use Rattle.nest_lang.specs.Turns.{IsPositionIn, turns_trace}
use Rattle.domain.specs.Tables.{Table, IsTable}
use Rattle.domain.specs.Shapes.{LowersWithTrips}
use Rattle.profile.specs.Fits.{IsFitOf}
use Rattle.profile.specs.Reach.{HasI64s, IsOfI64s}
use Rattle.profile.specs.Sampled.{observations_in}

-- what is observed in c turns of the plain run of a nest from a position on, as far as so many steps lead, where each inner
-- `while` has at most k turns
abbrev pub observed_in : ℕ → List Loop → Outer → ℕ → Store → ℕ → List Observation
observed_in k loops o c s left = observations_in (seen_in (turns_trace plain k loops o c s) left)

-- the fit of what some turns show has a form of the lower bound of each `for` of whose trip it has one
abbrev pub LowersComeWithTrips : Type 0
LowersComeWithTrips = (D scalars k c left : ℕ) (loops : List Loop) (o : Outer) (s : Store) (t : Table) → IsFitOf D scalars loops (observed_in k loops o c s left) t → LowersWithTrips t

-- the fit of what some turns show of a nest that keeps the rules, in a file of at most 16 scalars, is a table, where the
-- numbers of the nest and of the store are i64s, as in every run, and the number of the next turn and the steps that are left
-- are at most 2^33 together
abbrev pub FitsAreTables : Type 0
FitsAreTables = (scalars k c left n : ℕ) (loops : List Loop) (o : Outer) (s : Store) (t : Table) → 0 < k → scalars ≤ 16 → NestKeeps scalars loops → All HasI64s loops → IsOfI64s s
    → IsPositionIn loops o → o.next ≡ pos n → n + left ≤ 2 ^ 33 → IsFitOf (length loops) scalars loops (observed_in k loops o c s left) t → IsTable (length loops) t
