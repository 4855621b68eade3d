-- The verdict on a system of rows, and the rows before each elimination.
use Rattle.std.specs.Prelude.{◌^◌, ℕ, zero, suc, List, [], ◌∷◌, ◌++◌, length}
use Rattle.std.specs.List.{All}
use Rattle.affine.specs.declared.row.Row.{Row}
use Rattle.fourier_motzkin.specs.RowSets.{IsWithin, tidied}
use Rattle.fourier_motzkin.specs.Elimination.{AllOver, judged, eliminated}
use Rattle.fourier_motzkin.specs.declared.elimination.Eliminated.{Eliminated}
use Rattle.fourier_motzkin.specs.declared.elimination.Eliminated.TheVariants as set
use Rattle.fourier_motzkin.specs.declared.verdicts.Ruling.{Ruling}
use Rattle.fourier_motzkin.specs.declared.verdicts.Ruling.TheVariants.{Empty, Maybe, Wide}

-- what is ruled where this is said last
abbrev pub ruled : Eliminated → Ruling
ruled set.False = Empty
ruled set.Wide = Wide
ruled (set.Rows rows) = Maybe

-- what is said once the variable is eliminated too; False and Wide end the elimination
abbrev pub next : ℕ → Eliminated → Eliminated
next variable set.False = set.False
next variable set.Wide = set.Wide
next variable (set.Rows rows) = eliminated variable rows

-- the rows that stand; none after False or Wide
abbrev pub standing : Eliminated → List Row
standing set.False = []
standing set.Wide = []
standing (set.Rows rows) = rows

-- the ruling where the variables from number n - 1 down to 0 are eliminated in turn: the first False gives Empty,
-- the first Wide gives Wide, and otherwise it is Maybe
abbrev pub ruling : ℕ → Eliminated → Ruling
ruling zero said = ruled said
ruling (suc n) said = ruling n (next n said)

-- the rows that stand before each of these eliminations, that of variable 0 first
abbrev pub levels : ℕ → Eliminated → List (List Row)
levels zero said = []
levels (suc n) said = levels n (next n said) ++ standing said ∷ []

-- what a scan holds: the rows before each elimination, and the verdict
pub record Bounds : Type 0 where
  pub levels : List (List Row)
  pub verdict : Ruling

-- the verdict on rows over so many variables: they are tidied and judged, and then the variables are eliminated
unfoldable pub verdict_of : ℕ → List Row → Ruling
verdict_of n rows = ruling n (judged (tidied rows))

unfoldable pub bounds_of : ℕ → List Row → Bounds
bounds_of n rows = record { levels = levels n (judged (tidied rows)); verdict = verdict_of n rows }

-- the rows of each level have as many variables as there are levels, and numbers of at most 2^62 in size
pub record AreLevels (levels : List (List Row)) : Type 0 where
  pub over : All (AllOver (length levels)) levels
  pub within : All (All (IsWithin (2 ^ 62))) levels
