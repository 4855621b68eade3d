-- What holds of the accesses of a block.
use Rattle.std.specs.Prelude.{◌≡◌, ℕ, ℤ, List}
use Rattle.std.specs.List.{Contains}
use Rattle.nest_lang.specs.declared.tree.Access.{Access}
use Rattle.nest_lang.specs.declared.tree.Stmt.{Stmt}
use Rattle.nest_lang.specs.declared.tree.Head.{Head}
use Rattle.nest_lang.specs.Stores.{Store}
use Rattle.nest_lang.specs.Lookups.{Expectation}
use Rattle.nest_lang.specs.Traces.{Occurrence}
use Rattle.nest_lang.specs.Expressions.{Frame}
use Rattle.nest_lang.specs.Statements.{instance_trace}
use Rattle.nest_lang.specs.Heads.{head_of}
use Rattle.nest_lang.specs.Accesses.{load, store, block_accesses, head_accesses}

-- both expectations verify or neither does, and they expect the same of each of these accesses
pub record AgreeOn (accesses : List Access) (x y : Expectation) : Type 0 where
  pub verify : x.verifies ≡ y.verifies
  pub loads : (number : ℕ) → Contains accesses (load number) → x.loads number ≡ y.loads number
  pub stores : (number : ℕ) → Contains accesses (store number) → x.stores number ≡ y.stores number

abbrev pub frame_with : Occurrence → List ℤ → Expectation → Frame
frame_with at values expects = record { at = at; values = values; expects = expects }

-- what an instance of a block does and shows depends on what is expected of the accesses of that block alone
abbrev pub InstancesHaveOwnAccesses : Type 0
InstancesHaveOwnAccesses = (at : Occurrence) (values : List ℤ) (x y : Expectation) (block : List Stmt) (s : Store) → AgreeOn (block_accesses block) x y → instance_trace (frame_with at values x) block s ≡ instance_trace (frame_with at values y) block s

-- and so does what a head yields and shows
abbrev pub HeadsHaveOwnAccesses : Type 0
HeadsHaveOwnAccesses = (at : Occurrence) (values : List ℤ) (x y : Expectation) (head : Head) (s : Store) → AgreeOn (head_accesses head) x y → head_of (frame_with at values x) head s ≡ head_of (frame_with at values y) head s
