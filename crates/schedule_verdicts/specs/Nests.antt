-- Nests of loops up by 1 whose statements are all in the innermost one.
use Rattle.std.specs.Prelude.{◌≡◌, ℕ, ◌-◌, pos, List, [], ◌∷◌, ◌++◌, map}
use Rattle.std.specs.List.{range_with_len}
use Rattle.nest_lang.specs.declared.tree.Part.TheVariants.{Head, Pre}
use Rattle.domain.specs.declared.table.LoopKind.TheVariants.{For}
use Rattle.domain.specs.Tables.{Access, Block, Level, Reaches, Table}

-- a loop up by 1, whose last value can be computed
pub record IsCounted (l : Level) : Type 0 where
  pub kind : l.kind ≡ For (pos 1)
  pub reach : Reaches 1 l.trip

abbrev pub head : ℕ → Block
head level = record { part = Head; level = level; scalars = []; accesses = [] }

abbrev pub innermost : ℕ → List Access → Block
innermost D accesses = record { part = Pre; level = D; scalars = []; accesses = accesses }

-- D loops, the heads of the inner ones, and the statements
abbrev pub nested : ℕ → List Level → List Access → Table
nested D levels accesses = record { levels = levels; blocks = map head (range_with_len 2 (D - 1)) ++ innermost D accesses ∷ [] }
