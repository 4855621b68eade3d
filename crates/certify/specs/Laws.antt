-- What a certificate shows. No law names a judgement or an elimination.
use Rattle.std.specs.Prelude.{ℕ, ℤ}
use Rattle.domain.specs.declared.chunk.Chunk.{Chunk}
use Rattle.domain.specs.Tables.{Table, IsTable}
use Rattle.domain.specs.Instances.{Instance, Predicted}
use Rattle.domain.specs.Footprints.{Conflict}
use Rattle.transform.specs.Schedules.{Schedule, IsSchedule}
use Rattle.dependence.specs.Legality.{Unmet}
use Rattle.dependence.specs.Laws.{ComesFirst, InOtherTiles, IsPair, IsShortLaunch}
use Rattle.certify.specs.Certificates.{Certificate, IsCertificateOf}

-- where a schedule has a certificate, no whole-number point meets a system with a violated row
abbrev pub CertifiedIsUnmet : Type 0
CertifiedIsUnmet = (t : Table) (s : Schedule) (c : Certificate) → IsCertificateOf t s c → Unmet t s c.length

-- so in a launched chunk of at most its length a conflicting pair comes in the order of the schedule as in original order
abbrev pub CertifiedOrderKept : Type 0
CertifiedOrderKept =
    (D : ℕ) (t : Table) (words : ℤ) (s : Schedule) (c : Certificate) (chunk : Chunk) (x y : Instance) → IsTable D t → IsSchedule D s → IsCertificateOf t s c
    → IsPair t c.length words chunk x y → ComesFirst t s x y

-- and two instances in different tiles of one phase never conflict
abbrev pub CertifiedTilesApart : Type 0
CertifiedTilesApart =
    (D : ℕ) (t : Table) (words : ℤ) (s : Schedule) (c : Certificate) (chunk : Chunk) (x y : Instance) → IsTable D t → IsSchedule D s → IsCertificateOf t s c
    → IsShortLaunch t c.length words chunk → Predicted t chunk x → Predicted t chunk y → InOtherTiles t s x y → Conflict t words x y → ⊥
