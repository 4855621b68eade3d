-- Certificates: for each violation that legality asks about, in order, a refutation of its rows.
use Rattle.std.specs.Prelude.{◌≡◌, ◌≤◌, ◌<◌, ◌^◌, ℕ, ℤ, List, [], ◌∷◌, length}
use Rattle.std.specs.List.{All}
use Rattle.domain.specs.Tables.{Table}
use Rattle.transform.specs.Schedules.{Schedule}
use Rattle.dependence.specs.Legality.{Trial, Violated, tried, trials}
use Rattle.dependence.specs.Sides.{is_above}
use Rattle.refutation.specs.Refutations.{HasFactors, IsRefutation}
use Rattle.certify.specs.declared.certificates.Claimed.{Claimed}

-- blocks about a schedule for chunks of at most so many turns, with the number of its candidate and of the observed turns
pub record Certificate : Type 0 where
  pub candidate : ℕ
  pub length : ℤ
  pub sample : ℤ
  pub blocks : List Claimed

-- a block is about that system and that violated row
pub record IsOf (v : Trial) (b : Claimed) : Type 0 where
  pub first : b.first ≡ v.system.first
  pub second : b.second ≡ v.system.second
  pub case : b.case ≡ v.system.case
  pub row : b.row ≡ v.violated.row
  pub side : is_above b.side ≡ v.violated.above

-- and its proof is a refutation of the rows of both
pub record Refutes (t : Table) (s : Schedule) (v : Trial) (b : Claimed) : Type 0 where
  pub of : IsOf v b
  pub proof : IsRefutation (tried t s v) b.proof

-- as many blocks as trials, each refuting the trial of its number
abbrev pub AreRefuted : Table → Schedule → List Trial → List Claimed → Type 0
AreRefuted t s [] [] = Unit {0}
AreRefuted t s [] (b ∷ bs) = ⊥
AreRefuted t s (v ∷ vs) [] = ⊥
AreRefuted t s (v ∷ vs) (b ∷ bs) = Refutes t s v b × AreRefuted t s vs bs

-- a certificate of a schedule: its blocks refute all trials for its length, in their order
abbrev pub IsCertificateOf : Table → Schedule → Certificate → Type 0
IsCertificateOf t s c = AreRefuted t s (trials t s c.length) c.blocks

-- a proof that can be checked: the factors are those of a refutation, and there are fewer than 2^32 adds
pub record HasProof (b : Claimed) : Type 0 where
  pub factors : All HasFactors b.proof.adds
  pub few : length b.proof.adds < 2 ^ 32

-- a row of so many, from 1
pub record IsRowOf (D : ℕ) (v : Violated) : Type 0 where
  pub from : 1 ≤ v.row
  pub to : v.row ≤ D
