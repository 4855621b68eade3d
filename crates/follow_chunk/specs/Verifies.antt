-- Verifies: a port that verifies the accesses of an instance of a table by itself.
use Rattle.std.specs.Prelude.{◌≡◌, ◌≤◌, ◌^◌, ℕ, Bool, true, false, Option, Some}
use Rattle.nest_lang.specs.declared.tree.AccessKind.{AccessKind}
use Rattle.nest_lang.specs.declared.tree.AccessKind.TheVariants.{Load, Store}
use Rattle.nest_lang.specs.Lookups.{Expectation, Interval}
use Rattle.domain.specs.Tables.{Table, Access, access_at}
use Rattle.domain.specs.Instances.{Instance, block_of}
use Rattle.follow.specs.Verifies.{expected_by}
use Rattle.follow_chunk.specs.declared.task.Followed.{Followed}
use Rattle.follow_chunk.specs.declared.task.Followed.TheVariants.{Same, Differs}
use Rattle.follow_chunk.specs.Predicted.{interval_at}

-- a table says of an access whether it stores
abbrev pub kind_where : Bool → AccessKind
kind_where true = Store
kind_where false = Load

-- what is expected of an access of a table, as the store or the load that it is
abbrev pub expected_where : Bool → Expectation → ℕ → Option Interval
expected_where stores x number = expected_by (kind_where stores) x number

-- it verifies, and expects of each access of the instance's block, as the store or the load that it is, its interval
pub record VerifiesInstance (x : Expectation) (t : Table) (inst : Instance) : Type 0 where
  pub verifies : x.verifies ≡ true
  pub each : (number : ℕ) (access : Access) → access_at (block_of t inst) number ≡ Some access → expected_where access.stores x number ≡ interval_at t inst number

-- an instance that follows takes at most 2^20 steps
abbrev pub IsShort : {D : ℕ} → Followed D → Type 0
IsShort (Same steps) = steps ≤ 2 ^ 20
IsShort (Differs d) = Unit {0}
