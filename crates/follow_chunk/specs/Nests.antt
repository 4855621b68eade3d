-- Nests: a nest with a table of it, and the instances of the nest.
use Rattle.std.specs.Prelude.{ℕ, pos, ◌≤ℤ◌, List}
use Rattle.nest_lang.specs.declared.tree.Loop.{Loop}
use Rattle.nest_lang.specs.Rules.{NestKeeps}
use Rattle.domain.specs.Tables.{Table, IsTable}
use Rattle.domain.specs.Instances.{Instance, IsInstance, counter}
use Rattle.domain.specs.Shapes.{IsTableOf}

-- the nest of D loops, in a file with so many scalars, keeps the rules, and the table is one of it
pub record IsNest (D scalars : ℕ) (loops : List Loop) (t : Table) : Type 0 where
  pub keeps : NestKeeps scalars loops
  pub shape : IsTable D t
  pub table : IsTableOf scalars loops t

-- an instance of the nest, in a turn of each loop around it: no turn number is below 0
pub record IsInTurns (t : Table) (x : Instance) : Type 0 where
  pub is : IsInstance t x
  pub turns : (k : ℕ) → pos 0 ≤ℤ counter x.at k
