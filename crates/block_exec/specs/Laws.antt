-- What holds of instances whose addresses are verified: where they may read and write, and that they are
-- the plain ones or stop.
use Rattle.std.specs.Prelude.{◌≡◌, ◌⊎◌, ◌++◌, ℕ, ℤ, pos, true, false, List, [], ◌∷◌, Option, Some, length, slice_get}
use Rattle.nest_lang.specs.declared.tree.Head.{Head}
use Rattle.nest_lang.specs.declared.tree.Stmt.{Stmt}
use Rattle.nest_lang.specs.declared.observe.Seen.TheVariants.{Address}
use Rattle.nest_lang.specs.Stores.{Store, store_of, Nothing}
use Rattle.nest_lang.specs.Lookups.{Interval, Expectation, plain, lies_in, line_of}
use Rattle.nest_lang.specs.Traces.{Observation, Entry, Trace, Stopped, traced, after_all}
use Rattle.nest_lang.specs.Expressions.{Frame, shown}
use Rattle.nest_lang.specs.Heads.{headed}
use Rattle.nest_lang.specs.Statements.{block_trace, instance_trace}

-- the address lies in what is expected of some load, or of some store
abbrev pub IsLoaded : Expectation → ℕ → Type 0
IsLoaded x address = (access : ℕ) × (lies_in (x.loads access) (pos address) ≡ true)

abbrev pub IsStored : Expectation → ℕ → Type 0
IsStored x address = (access : ℕ) × (lies_in (x.stores access) (pos address) ≡ true)

-- two memories of as many words that have the same words wherever a load is expected
abbrev pub AlikeWhereLoaded : Expectation → List ℤ → List ℤ → Type 0
AlikeWhereLoaded x m w = (length m ≡ length w) × ((address : ℕ) → IsLoaded x address → slice_get m address ≡ slice_get w address)

-- what a block does depends on the memory only where its loads are expected, and on the number of words
abbrev pub DependsWhereLoaded : Type 0
DependsWhereLoaded = (f : Frame) (block : List Stmt) (m w scalars locals : List ℤ) → f.expects.verifies ≡ true → AlikeWhereLoaded f.expects m w
    → block_trace f block (store_of m scalars locals) ≡ block_trace f block (store_of w scalars locals)

-- a block leaves every word where no store is expected
abbrev pub ChangesWhereStored : Type 0
ChangesWhereStored = (f : Frame) (block : List Stmt) (s : Store) (address : ℕ) → f.expects.verifies ≡ true → (IsStored f.expects address → ⊥)
    → slice_get (after_all s (block_trace f block s).entries).memory address ≡ slice_get s.memory address

-- the trace of an instance of a head: its one step
abbrev pub head_trace : Frame → Head → Store → Trace
head_trace f head s = traced (headed f head (λ yield. []) s) s

-- the same of instances, with what they show before their first step: of a block, and of a head
abbrev pub InstancesDependWhereLoaded : Type 0
InstancesDependWhereLoaded = (f : Frame) (m w scalars locals : List ℤ) → f.expects.verifies ≡ true → AlikeWhereLoaded f.expects m w
    → ((block : List Stmt) → instance_trace f block (store_of m scalars locals) ≡ instance_trace f block (store_of w scalars locals))
    × ((head : Head) → head_trace f head (store_of m scalars locals) ≡ head_trace f head (store_of w scalars locals))

-- an instance of a block leaves every word where no store is expected, and one of a head changes nothing
abbrev pub InstancesChangeWhereStored : Type 0
InstancesChangeWhereStored = (f : Frame) (s : Store)
    → ((block : List Stmt) (address : ℕ) → f.expects.verifies ≡ true → (IsStored f.expects address → ⊥) → slice_get (after_all s (instance_trace f block s).entries).memory address ≡ slice_get s.memory address)
    × ((head : Head) → after_all s (head_trace f head s).entries ≡ s)

-- an access at an address that is not expected: it doesn't lie in the interval of that load or store, or
-- there is none; the line is that of the interval
pub record IsUnexpected (x : Expectation) (access : ℕ) (address : ℤ) (line : Option ℤ) : Type 0 where
  pub interval : Option Interval
  pub its : (interval ≡ x.loads access) ⊎ (interval ≡ x.stores access)
  pub beyond : lies_in interval address ≡ false
  pub lined : line ≡ line_of interval

-- one trace stops at an access that is not expected, where another goes on: the entries before are the
-- same; what the stopping step shows is a front of what that step of the other shows, and ends with the
-- access's address; the stopping step changes nothing
pub record StopsUnexpected (f : Frame) (t u : Trace) : Type 0 where
  pub shared : List Entry
  pub last : Entry
  pub other : Entry
  pub more : List Entry
  pub access : ℕ
  pub address : ℤ
  pub line : Option ℤ
  pub front : List Observation
  pub behind : List Observation
  pub stopped : t ≡ record { entries = shared ++ last ∷ []; halt = Some (Stopped access address line) }
  pub goes : u.entries ≡ shared ++ other ∷ more
  pub due : last.before ≡ other.before
  pub shows : last.seen ≡ front ++ shown f (Address access) address ∷ []
  pub begins : other.seen ≡ last.seen ++ behind
  pub unchanged : last.effect ≡ Nothing
  pub unexpected : IsUnexpected f.expects access address line

-- an instance is the plain one, whatever is expected of its addresses, or stops at an access that is not
-- expected: of a block, and of a head
abbrev pub InstancesArePlainOrStop : Type 0
InstancesArePlainOrStop = (f : Frame) (s : Store)
    → ((block : List Stmt) → (instance_trace f block s ≡ instance_trace (record f { expects = plain }) block s) ⊎ StopsUnexpected f (instance_trace f block s) (instance_trace (record f { expects = plain }) block s))
    × ((head : Head) → (head_trace f head s ≡ head_trace (record f { expects = plain }) head s) ⊎ StopsUnexpected f (head_trace f head s) (head_trace (record f { expects = plain }) head s))
