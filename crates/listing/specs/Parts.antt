-- Parts of a listing: what the calls inside it are given, and what they answer.
use Rattle.std.specs.Prelude.{◌≡◌, ℕ, ◌<◌, ◌≤◌, List, ◌++◌, length, ⊤}
use Rattle.nest_lang.specs.declared.tree.Loop.{Loop}
use Rattle.nest_lang.specs.Blocks.{present_blocks}
use Rattle.nest_lang.specs.Rules.{NestKeeps}
use Rattle.nest_grammar.specs.declared.file.NestUnit.{NestUnit}
use Rattle.domain.specs.Tables.{Table}
use Rattle.profile.specs.declared.unfit.UnfitWhy.{UnfitWhy}
use Rattle.profile.specs.declared.unfit.UnfitWhy.TheVariants as why
use Rattle.report.specs.declared.line.ListingLine.{ListingLine}

-- a nest of a file with so many scalars keeps the rules, and has at most 16 candidates
pub record IsUnitOf (scalars : ℕ) (unit : NestUnit) : Type 0 where
  pub few : scalars ≤ 16
  pub keeps : NestKeeps scalars unit.nest.loops
  pub candidates : length unit.scripts ≤ 16

-- the reason is about an instance of one of so many blocks, where it is about one
abbrev pub IsPlaced : {D : ℕ} → ℕ → UnfitWhy D → Type 0
IsPlaced blocks (why.Line at line seen) = at.block < blocks
IsPlaced blocks (why.Large number) = ⊤

-- a table has the blocks of a nest of D loops, one to six
pub record IsOfNest (D : ℕ) (loops : List Loop) (t : Table) : Type 0 where
  pub some : 0 < D
  pub few : D < 7
  pub depth : length loops ≡ D
  pub blocks : length t.blocks ≡ length (present_blocks loops)

-- lines of which this holds were put behind those that were there
abbrev pub Adds : (List ListingLine → Type 0) → List ListingLine → List ListingLine → Type 0
Adds Are old new = (more : List ListingLine) × Are more × (new ≡ old ++ more)
