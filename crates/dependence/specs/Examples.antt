-- Two nests with known answers, computed by the definitions: for i = 1 below 17 { for j = 0 below 16 { [20 i + j] = [20 i + j - 19] } },
-- in chunks of at most 32 turns, and a triangle.
use Rattle.std.specs.Prelude.{◌≡◌, ℕ, ℤ, pos, Bool, true, false, Option, Some, None, List, [], ◌∷◌, length, refl}
use Rattle.affine.specs.Forms.{Affine}
use Rattle.affine.specs.Divisors.{gcd}
use Rattle.affine.specs.Rows.{normal}
use Rattle.fourier_motzkin.specs.RowSets.{tidied}
use Rattle.fourier_motzkin.specs.Elimination.{eliminated, projected}
use Rattle.fourier_motzkin.specs.Verdicts.{verdict_of}
use Rattle.nest_lang.specs.declared.tree.Part.TheVariants.{Head, Pre}
use Rattle.domain.specs.declared.table.LoopKind.TheVariants.{For}
use Rattle.domain.specs.Tables.{Table, Access, Level, Block, zero_form}
use Rattle.dependence.specs.Systems.{systems, comparisons}
use Rattle.transform.specs.Schedules.{Line, Schedule}
use Rattle.dependence.specs.Legality.{Trial, trials, judgement, refusal}

abbrev pub form_of : List ℤ → ℤ → Affine
form_of coef cst = record { coef = coef; cst = cst }

abbrev pub access_of : Bool → Affine → Access
access_of stores form = record { stores = stores; line = Some form; low = pos 0; high = pos 0 }

-- a loop up by 1 from 0 with that trip
abbrev pub counted : Affine → Level
counted trip = record { kind = For (pos 1); lower = Some (zero_form 2); trip = Some trip }

-- the outermost loop, whose head is no block, and whose trip is in no system
abbrev pub outermost : Level
outermost = record { kind = For (pos 1); lower = None; trip = None }

abbrev pub head : Block
head = record { part = Head; level = 2; scalars = []; accesses = [] }

abbrev pub statements : List Access → Block
statements accesses = record { part = Pre; level = 2; scalars = []; accesses = accesses }

abbrev pub skewed : Table
skewed = record {
  levels = outermost ∷ counted (form_of (pos 0 ∷ pos 0 ∷ []) (pos 16)) ∷ [];
  blocks = head ∷ statements (access_of false (form_of (pos 20 ∷ pos 1 ∷ []) (pos 1)) ∷ access_of true (form_of (pos 20 ∷ pos 1 ∷ []) (pos 20)) ∷ []) ∷ [];
}

-- six systems: the store and the load in both orders, and the store with itself, each in two cases
systems-skewed : length (systems skewed (pos 32)) ≡ 6
unfolding systems comparisons
systems-skewed = refl

-- tile 1 4; tile 2 4, and the same after skew 2 1 1
abbrev pub line_of_four : List ℤ → Line
line_of_four row = record { row = row; size = 4; parallel = false }

abbrev pub square : Schedule
square = record { lines = line_of_four (pos 1 ∷ pos 0 ∷ []) ∷ line_of_four (pos 0 ∷ pos 1 ∷ []) ∷ []; seq = 0 }

abbrev pub slanted : Schedule
slanted = record { lines = line_of_four (pos 1 ∷ pos 0 ∷ []) ∷ line_of_four (pos 1 ∷ pos 1 ∷ []) ∷ []; seq = 0 }

abbrev pub trial_at : Option Trial → Option (ℕ × ℕ × ℕ)
trial_at None = None
trial_at (Some v) = Some (v.system.first.access, v.system.second.access, v.violated.row)

-- twelve trials
trials-slanted : length (trials skewed slanted (pos 32)) ≡ 12
unfolding systems comparisons trials
trials-slanted = refl

-- the first is refused at row 2 by the store before the load, the second is legal
refusal-square : trial_at (refusal skewed square (pos 32)) ≡ Some (2, 1, 2)
unfolding systems comparisons trials judgement verdict_of eliminated projected tidied normal gcd
refusal-square = refl

refusal-slanted : trial_at (refusal skewed slanted (pos 32)) ≡ None
unfolding systems comparisons trials judgement verdict_of eliminated projected tidied normal gcd
refusal-slanted = refl

-- for i = 0 below 12 { for j = 0 below i { [10 i + j] = 1 } }: par 1 is refused, seq 1; par 2 is legal
abbrev pub triangle : Table
triangle = record {
  levels = outermost ∷ counted (form_of (pos 1 ∷ pos 0 ∷ []) (pos 0)) ∷ [];
  blocks = head ∷ statements (access_of true (form_of (pos 10 ∷ pos 1 ∷ []) (pos 0)) ∷ []) ∷ [];
}

abbrev pub first_parallel : Schedule
first_parallel = record { lines = record { row = pos 1 ∷ pos 0 ∷ []; size = 8; parallel = true } ∷ record { row = pos 0 ∷ pos 1 ∷ []; size = 8; parallel = false } ∷ []; seq = 0 }

abbrev pub second_parallel : Schedule
second_parallel = record { lines = record { row = pos 1 ∷ pos 0 ∷ []; size = 1; parallel = false } ∷ record { row = pos 0 ∷ pos 1 ∷ []; size = 8; parallel = true } ∷ []; seq = 1 }

abbrev pub violated_at : Option Trial → Option (ℕ × ℕ × Bool)
violated_at None = None
violated_at (Some v) = Some (v.system.case, v.violated.row, v.violated.above)

refusal-first_parallel : violated_at (refusal triangle first_parallel (pos 32)) ≡ Some (1, 1, true)
unfolding systems comparisons trials judgement verdict_of eliminated projected tidied normal gcd
refusal-first_parallel = refl

refusal-second_parallel : violated_at (refusal triangle second_parallel (pos 32)) ≡ None
unfolding systems comparisons trials judgement verdict_of eliminated projected tidied normal gcd
refusal-second_parallel = refl
