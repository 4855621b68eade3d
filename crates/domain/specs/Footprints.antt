-- Footprints: which words an instance reads and writes, and when two instances conflict.
use Rattle.std.specs.Prelude.{◌≡◌, ◌⊎◌, ◌↔◌, ◌<◌, ℕ, ℤ, pos, ◌+ℤ◌, ◌≤ℤ◌, ◌<ℤ◌, Bool, true, false, List, Option, Some, None, Contains}
use Rattle.std.specs.List.Sorted.{IsStrictlyIncreasing}
use Rattle.affine.specs.Forms.{Affine, value_at}
use Rattle.domain.specs.Tables.{Table, Access, access_at}
use Rattle.domain.specs.Instances.{Instance, block_of}

-- the address lies in the expected interval about the line; without a form there is none
abbrev pub LiesAbout : Option Affine → ℤ → ℤ → List ℤ → ℤ → Type 0
LiesAbout None low high at address = ⊥
LiesAbout (Some form) low high at address = ((value_at form at +ℤ low) ≤ℤ address) × (address ≤ℤ (value_at form at +ℤ high))

abbrev pub Expects : Access → List ℤ → ℤ → Type 0
Expects access at address = LiesAbout access.line access.low access.high at address

-- an access of the instance, a store or a load, has the address in its expected interval
pub record Touches (t : Table) (x : Instance) (address : ℤ) (stores : Bool) : Type 0 where
  pub number : ℕ
  pub access : Access
  pub is : access_at (block_of t x) number ≡ Some access
  pub kind : access.stores ≡ stores
  pub expected : Expects access x.at address

abbrev pub Writes : Table → Instance → ℤ → Type 0
Writes t x address = Touches t x address true

-- a read is an address that is a word
abbrev pub Reads : Table → ℤ → Instance → ℤ → Type 0
Reads t words x address = Touches t x address false × (pos 0 ≤ℤ address) × (address <ℤ words)

-- a write of one is a read or a write of the other
abbrev pub Conflict : Table → ℤ → Instance → Instance → Type 0
Conflict t words x y = (address : ℤ) × ((Writes t x address × (Reads t words y address ⊎ Writes t y address)) ⊎ (Writes t y address × (Reads t words x address ⊎ Writes t x address)))

-- the addresses of which P holds, in order, each once
pub record IsListOf (P : ℤ → Type 0) (addresses : List ℕ) : Type 0 where
  pub rising : IsStrictlyIncreasing addresses
  pub has : (address : ℕ) → Contains addresses address ↔ P (pos address)

-- the list gains the addresses of which P holds
abbrev pub Gains : (ℕ → Type 0) → List ℕ → List ℕ → Type 0
Gains P old new = (address : ℕ) → Contains new address ↔ (Contains old address ⊎ P address)

-- a word that is expected of an access, where it is a store or a load
pub record IsWordOf (access : Access) (at : List ℤ) (words : ℕ) (stores : Bool) (address : ℕ) : Type 0 where
  pub kind : access.stores ≡ stores
  pub expected : Expects access at (pos address)
  pub word : address < words
