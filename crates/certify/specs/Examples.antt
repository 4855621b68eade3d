-- A certificate with known checks, computed by the definitions: of for i = 0 below N { [i] = 1 } run in parallel tiles, in chunks of
-- at most 32 turns. The store and itself have one system, and the one row of the schedule may fall or climb.
use Rattle.std.specs.Prelude.{◌≡◌, ℕ, pos, true, Some, None, List, [], ◌∷◌, refl}
use Rattle.affine.specs.Divisors.{gcd}
use Rattle.affine.specs.Rows.{normal}
use Rattle.fourier_motzkin.specs.RowSets.{tidied}
use Rattle.nest_lang.specs.declared.tree.AccessRef.{AccessRef}
use Rattle.nest_lang.specs.declared.tree.Part.TheVariants.{Pre}
use Rattle.domain.specs.declared.table.LoopKind.TheVariants.{For}
use Rattle.domain.specs.Tables.{Table}
use Rattle.transform.specs.Schedules.{Schedule}
use Rattle.dependence.specs.Systems.{comparisons, systems}
use Rattle.dependence.specs.Legality.{trials}
use Rattle.dependence.specs.declared.violations.Side.{Side}
use Rattle.dependence.specs.declared.violations.Side.TheVariants.{Above, Below}
use Rattle.refutation.specs.declared.proofs_by_adding.Why.{Why}
use Rattle.refutation.specs.declared.proofs_by_adding.Why.TheVariants.{Index, Open, Order}
use Rattle.refutation.specs.Refutations.{sum_of}
use Rattle.refutation.specs.Checks.{checked}
use Rattle.certify.specs.declared.certificates.Claimed.{Claimed}
use Rattle.certify.specs.declared.certificates.ScheduleCheck.{ScheduleCheck}
use Rattle.certify.specs.declared.certificates.ScheduleCheck.TheVariants.{Yes, No}
use Rattle.certify.specs.Checks.{schedule_check}

abbrev pub filled : Table
filled = record {
  levels = record { kind = For (pos 1); lower = None; trip = None } ∷ [];
  blocks = record { part = Pre; level = 1; scalars = []; accesses = record { stores = true; line = Some (record { coef = pos 1 ∷ []; cst = pos 0 }); low = pos 0; high = pos 0 } ∷ [] } ∷ [];
}

abbrev pub in_parallel : Schedule
in_parallel = record { lines = record { row = pos 1 ∷ []; size = 8; parallel = true } ∷ []; seq = 0 }

abbrev pub store : AccessRef
store = record { block = 0; access = 1 }

-- the rows over the chunk's first turn, x and y are tidied to seven; 1 times row 2, that y is more than x, plus 1 times row 3,
-- that it is at most x, is false
abbrev pub on_side : Side → ℕ → Claimed
on_side side right = record {
  first = store;
  second = store;
  case = 1;
  row = 1;
  side = side;
  proof = record { adds = record { p = 1; left = 2; q = 1; right = right } ∷ []; last = 7 };
}

abbrev pub check_of : List Claimed → ScheduleCheck
check_of blocks = schedule_check filled in_parallel (record { candidate = 1; length = pos 32; sample = pos 4; blocks = blocks })

abbrev pub fails : ℕ → Why → ScheduleCheck
fails block why = No (record { block = block; why = why })

both-sides : check_of (on_side Below 3 ∷ on_side Above 3 ∷ []) ≡ Yes
unfolding comparisons systems trials checked tidied sum_of normal gcd
both-sides = refl

-- a block that is missing, one too many, and two that change places
last-missing : check_of (on_side Below 3 ∷ []) ≡ fails 1 Order
unfolding comparisons systems trials checked tidied sum_of normal gcd
last-missing = refl

one-too_many : check_of (on_side Below 3 ∷ on_side Above 3 ∷ on_side Above 3 ∷ []) ≡ fails 2 Order
unfolding comparisons systems trials checked tidied sum_of normal gcd
one-too_many = refl

in-other_order : check_of (on_side Above 3 ∷ on_side Below 3 ∷ []) ≡ fails 0 Order
unfolding comparisons systems trials checked tidied sum_of normal gcd
in-other_order = refl

-- a proof that adds a row that isn't there yet, and one whose last row is y - x - 1 >= 0 twice over
missing-row : check_of (on_side Below 7 ∷ on_side Above 3 ∷ []) ≡ fails 0 (Index 0)
unfolding comparisons systems trials checked tidied sum_of normal gcd
missing-row = refl

open-proof : check_of (on_side Below 3 ∷ on_side Above 2 ∷ []) ≡ fails 1 Open
unfolding comparisons systems trials checked tidied sum_of normal gcd
open-proof = refl
