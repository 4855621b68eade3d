-- Planned laws: what holds of the instances of some turns of a nest.
use Rattle.std.specs.Prelude.{◌≡◌, ℕ, ◌<◌, pos, unsigned_abs, List, [], ◌∷◌, map, true}
use Rattle.nest_lang.specs.declared.tree.BlockRef.{BlockRef}
use Rattle.nest_lang.specs.declared.tree.Loop.{Loop}
use Rattle.nest_lang.specs.declared.state.Outer.{Outer}
use Rattle.nest_lang.specs.Blocks.{present_blocks}
use Rattle.nest_lang.specs.Rules.{loops_keep}
use Rattle.follow.specs.Forecasts.{Forecast}
use Rattle.follow.specs.Plans.{planned, Item}
use Rattle.follow.specs.OriginalOrder.{zeros}

-- turns of a nest that keeps the rules have an instance
abbrev pub PlannedSome : Type 0
PlannedSome = (p : Forecast) (loops : List Loop) (o : Outer) (c : ℕ) → loops_keep loops ≡ true → 0 < c → (x : Item) × (xs : List Item) × (planned p loops o c ≡ x ∷ xs)

-- the first instance is one of the first block, in turn t, with inner counters 0
abbrev pub FirstIs : List Item → List BlockRef → ℕ → Type 0
FirstIs [] bs t = Unit {0}
FirstIs (x ∷ xs) bs t = (n : ℕ) × (more : List BlockRef) × (bs ≡ x.at.block ∷ more) × (x.at.counters ≡ pos t ∷ map pos (zeros n))

-- the instances of turns begin with the first present block, in the next turn, with inner counters 0
abbrev pub PlannedFirst : Type 0
PlannedFirst = (p : Forecast) (loops : List Loop) (o : Outer) (c : ℕ) → loops_keep loops ≡ true → FirstIs (planned p loops o c) (present_blocks loops) (unsigned_abs o.next)
