-- What a check of a certificate finds: the first block that fails, and why.
use Rattle.std.specs.Prelude.{ℕ, suc, nat_eq, nat_lt, ◌&&◌, not, Bool, true, false, if◌then◌else◌, Option, Some, None, List, [], ◌∷◌, length, slice_get}
use Rattle.nest_lang.specs.declared.tree.AccessRef.{AccessRef}
use Rattle.domain.specs.Tables.{Table}
use Rattle.transform.specs.Schedules.{Schedule}
use Rattle.dependence.specs.Legality.{Trial, tried, trials}
use Rattle.dependence.specs.Sides.{is_above}
use Rattle.refutation.specs.Checks.{checked}
use Rattle.refutation.specs.declared.proofs_by_adding.Why.{Why}
use Rattle.refutation.specs.declared.proofs_by_adding.Why.TheVariants.{Order}
use Rattle.refutation.specs.declared.proofs_by_adding.Checked.{Checked}
use Rattle.refutation.specs.declared.proofs_by_adding.Checked.TheVariants as found
use Rattle.certify.specs.declared.certificates.Claimed.{Claimed}
use Rattle.certify.specs.declared.certificates.BlockFault.{BlockFault}
use Rattle.certify.specs.declared.certificates.ScheduleCheck.{ScheduleCheck}
use Rattle.certify.specs.declared.certificates.ScheduleCheck.TheVariants.{Yes, No}
use Rattle.certify.specs.Certificates.{Certificate}

abbrev pub same_access : AccessRef → AccessRef → Bool
same_access a b = nat_eq a.block b.block && nat_eq a.access b.access

abbrev pub same_side : Bool → Bool → Bool
same_side true above = above
same_side false above = not above

-- a block is about that system and that violated row
abbrev pub is_of : Trial → Claimed → Bool
is_of v b =
    same_access b.first v.system.first
    && (same_access b.second v.system.second && (nat_eq b.case v.system.case && (nat_eq b.row v.violated.row && same_side (is_above b.side) v.violated.above)))

abbrev pub flaw_of : Checked → Option Why
flaw_of found.Yes = None
flaw_of (found.No why) = Some why

-- what is wrong with the block that stands where one about that trial is due: it is missing or about something else, and
-- else what a check of its proof finds
abbrev pub flaw : Table → Schedule → Trial → Option Claimed → Option Why
flaw t s v None = Some Order
flaw t s v (Some b) = if is_of v b then flaw_of (checked (tried t s v) b.proof) else Some Order

abbrev pub fault_at : ℕ → Option Why → Option BlockFault
fault_at k None = None
fault_at k (Some why) = Some (record { block = k; why = why })

abbrev pub fault_or : Option BlockFault → Option BlockFault → Option BlockFault
fault_or (Some fault) later = Some fault
fault_or None later = later

-- the first block that fails of those where some trials are due, whose blocks count from k
abbrev pub due_fault : Table → Schedule → List Claimed → ℕ → List Trial → Option BlockFault
due_fault t s blocks k [] = None
due_fault t s blocks k (v ∷ vs) = fault_or (fault_at k (flaw t s v (slice_get blocks k))) (due_fault t s blocks (suc k) vs)

-- the block behind the last one that is due
abbrev pub surplus_fault : List Claimed → ℕ → Option BlockFault
surplus_fault blocks due = if nat_lt due (length blocks) then Some (record { block = due; why = Order }) else None

abbrev pub first_fault : Table → Schedule → Certificate → Option BlockFault
first_fault t s c = fault_or (due_fault t s c.blocks 0 (trials t s c.length)) (surplus_fault c.blocks (length (trials t s c.length)))

abbrev pub checked_by : Option BlockFault → ScheduleCheck
checked_by None = Yes
checked_by (Some fault) = No fault

abbrev pub schedule_check : Table → Schedule → Certificate → ScheduleCheck
schedule_check t s c = checked_by (first_fault t s c)
