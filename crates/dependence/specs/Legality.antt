-- Legal schedules: no system can be met together with a violated row.
use Rattle.std.specs.Prelude.{nat_lt, nat_le, not, ◌&&◌, Option, ◌≡◌, ℕ, ◌+◌, ◌-◌, ℤ, pos, ◌+ℤ◌, ◌*ℤ◌, Bool, true, false, if◌then◌else◌, min, List, [], ◌∷◌, ◌++◌, map, take}
use Rattle.std.specs.List.{find, range_with_len, flat_map, All}
use Rattle.affine.specs.declared.row.Row.{Row}
use Rattle.affine.specs.Forms.{Affine}
use Rattle.affine.specs.Rows.{Meets}
use Rattle.fourier_motzkin.specs.Verdicts.{verdict_of}
use Rattle.fourier_motzkin.specs.declared.verdicts.Ruling.TheVariants.{Empty, Maybe, Wide}
use Rattle.fourier_motzkin.specs.declared.verdicts.Ruling.{Ruling}
use Rattle.domain.specs.Tables.{Table, Block, depth, zero_form, block_at, counters}
use Rattle.dependence.specs.Comparisons.{AtX, AtY, AtMost, at_most}
use Rattle.dependence.specs.Systems.{System, equal, place_form, shifted, rows_for, systems}
use Rattle.transform.specs.Schedules.{Line, Schedule, line_at}

-- the sum of two lists, as long as the longer one
abbrev pub plus : List ℤ → List ℤ → List ℤ
plus [] ys = ys
plus (x ∷ xs) [] = x ∷ xs
plus (x ∷ xs) (y ∷ ys) = (x +ℤ y) ∷ plus xs ys

-- the sum of each number times its form
abbrev pub combined : ℕ → List ℤ → List Affine → Affine
combined n [] fs = zero_form n
combined n (m ∷ ms) [] = zero_form n
combined n (m ∷ ms) (f ∷ fs) = record { coef = plus (map (λ c. m *ℤ c) f.coef) (combined n ms fs).coef; cst = m *ℤ f.cst +ℤ (combined n ms fs).cst }

-- a row of the matrix at the padded point, as a form over a block's counters
abbrev pub row_form : Table → Block → Line → Affine
row_form t b l = combined (depth t) l.row (map (place_form t b) (range_with_len 0 (depth t)))

-- d is the row at y less the row at x: it is 0; at most -1; at least 1
abbrev pub unmoved : Table → Block → Block → Line → List AtMost
unmoved t a b l = equal (AtX (row_form t a l)) (AtY (row_form t b l))

abbrev pub falling : Table → Block → Block → Line → AtMost
falling t a b l = at_most (AtY (shifted (pos 1) (row_form t b l))) (AtX (row_form t a l))

abbrev pub climbing : Table → Block → Block → Line → AtMost
climbing t a b l = at_most (AtX (shifted (pos 1) (row_form t a l))) (AtY (row_form t b l))

-- what is added for a violated row, from 1: d is 0 in the leading rows before it, and not at least 0 there; above, of a parallel row, not at most 0
abbrev pub violated : Table → Schedule → Block → Block → ℕ → Bool → List AtMost
violated t s a b row above =
    flat_map (unmoved t a b) (take (min (row - 1) s.seq) s.lines)
    ++ (if above then climbing t a b (line_at s (row - 1)) else falling t a b (line_at s (row - 1))) ∷ []

-- the rows that a violation is judged by
abbrev pub violation : Table → Schedule → System → ℕ → Bool → List Row
violation t s sys row above = sys.rows ++ rows_for t sys.first sys.second (violated t s (block_at t sys.first.block) (block_at t sys.second.block) row above)

abbrev pub joint_variables : Table → System → ℕ
joint_variables t sys = 1 + (counters t (block_at t sys.first.block) + counters t (block_at t sys.second.block))

-- a violated row, below or above
pub record Violated : Type 0 where
  pub row : ℕ
  pub above : Bool

abbrev pub below : ℕ → Violated
below row = record { row = row; above = false }

abbrev pub above : ℕ → Violated
above row = record { row = row; above = true }

-- a row falls; where it is a parallel row of the band, it climbs
abbrev pub violations_of : Schedule → ℕ → List Violated
violations_of s row =
    below row ∷ (if nat_lt s.seq row && (line_at s (row - 1)).parallel then above row ∷ [] else [])

abbrev pub violations : Table → Schedule → List Violated
violations t s = flat_map (violations_of s) (range_with_len 1 (depth t))

-- a system with a violated row
pub record Trial : Type 0 where
  pub system : System
  pub violated : Violated

abbrev pub trial : System → Violated → Trial
trial sys v = record { system = sys; violated = v }

-- of a system of the cases 1 to D; in the last case every difference is 0
abbrev pub trials_of : Table → Schedule → System → List Trial
trials_of t s sys = if nat_le sys.case (depth t) then map (trial sys) (violations t s) else []

-- in the order in which they are judged: the system, the row, below before above
unfoldable pub trials : Table → Schedule → ℤ → List Trial
trials t s L = flat_map (trials_of t s) (systems t L)

-- the rows of one, and the verdict on them
abbrev pub tried : Table → Schedule → Trial → List Row
tried t s v = violation t s v.system v.violated.row v.violated.above

unfoldable pub judgement : Table → Schedule → Trial → Ruling
judgement t s v = verdict_of (joint_variables t v.system) (tried t s v)

-- no whole-number point meets the rows of any
abbrev pub Unmet : Table → Schedule → ℤ → Type 0
Unmet t s L = All (λ v. (point : List ℤ) → All (Meets point) (tried t s v) → ⊥) (trials t s L)

-- a schedule is legal where every verdict is Empty
abbrev pub Legal : Table → Schedule → ℤ → Type 0
Legal t s L = All (λ v. judgement t s v ≡ Empty) (trials t s L)

abbrev pub is_empty : Ruling → Bool
is_empty Empty = true
is_empty Maybe = false
is_empty Wide = false

-- and otherwise refused by the first that isn't
abbrev pub refusal : Table → Schedule → ℤ → Option Trial
refusal t s L = find (λ v. not (is_empty (judgement t s v))) (trials t s L)
