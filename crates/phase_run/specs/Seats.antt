-- The seats of a phase: lent to its workers, and taken back from them.
use Rattle.std.specs.Prelude.{◌≡◌, ℕ, true, false, List, [], None}
use Rattle.core_steps.specs.Numbers.{has}
use Rattle.core_steps.specs.Plans.{writes}
use Rattle.core_steps.specs.declared.view.View.{View}
use Rattle.core_steps.specs.Views.{stored_at}
use Rattle.plain_lemmas.specs.Lists.{Has}
use Rattle.follow_chunk.specs.Tasks.{TaskState}
use Rattle.verified_turns.specs.Workers.{Status}
use Rattle.phase_run.specs.Postings.{PostingState}

-- a worker of this phase of a task, whose seat was lent over this base
pub record IsOfPhase {D : ℕ} (k : TaskState) (p : PostingState) (base : List ℕ) (w : Status D) : Type 0 where
  pub same_table : w.table ≡ p.table
  pub same_task : w.task ≡ k
  pub same_lists : w.lists ≡ p.lists
  pub same_base : w.view.base ≡ base
  pub same_plan : w.view.plan ≡ p.plan

abbrev pub AreOfPhase : {D : ℕ} → TaskState → PostingState → List ℕ → List (Status D) → Type 0
AreOfPhase {D} k p base ws = (w : Status D) → Has ws w → IsOfPhase k p base w

-- none of them has a turn left
abbrev pub AreDone : {D : ℕ} → List (Status D) → Type 0
AreDone {D} ws = (w : Status D) → Has ws w → w.left ≡ 0

-- the numbers out are those of these workers
abbrev pub OnlyTheirs : {D : ℕ} → List ℕ → List (Status D) → Type 0
OnlyTheirs {D} out ws = (n : ℕ) → has n out ≡ true → (w : Status D) × Has ws w × (w.view.number ≡ n)

-- main lends seats of a posted plan: it took nothing over yet
pub record IsPosted (p : PostingState) (m : View) : Type 0 where
  pub posted : m.posted ≡ true
  pub plan : m.plan ≡ p.plan
  pub held : m.held ≡ []
  pub own : m.own ≡ []
  pub failed : m.failed ≡ false

-- its own values are at writes of its plan: it has none at an address that no tile writes
abbrev pub OwnsWrites : View → Type 0
OwnsWrites m = (address : ℕ) → ((tile : ℕ) → writes m.plan tile address ≡ true → ⊥) → stored_at address m.own ≡ None
