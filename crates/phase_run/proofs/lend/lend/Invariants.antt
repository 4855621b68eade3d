use Rattle.std.proofs.Common.{◌≡◌, ◌-◌, ◌≤◌, ℕ, true, vec_len}
use Rattle.std.specs.Prelude.{vec_capacity}
use Rattle.core_steps.specs.Numbers.{has}
use Rattle.follow_chunk.specs.Tasks.{task_of}
use Rattle.phase_run.specs.Seats.{AreOfPhase, OnlyTheirs}
use Rattle.phase_run.proofs.lend.lend.Given as goal

abbrev pub invariant-loop-number : goal.invariant-loop-number
invariant-loop-number g l = record {
  table : l.main.table ≡ l.initial.main.table;
  main : l.main.view ≡ record l.initial.main.view { out = l.main.view.out };
  count : vec_len l.workers ≡ l.number;
  few : l.number ≤ l.posting.workers;
  room : vec_capacity l.initial.workers ≤ vec_capacity l.workers;
  below : (n : ℕ) → has n l.main.view.out ≡ true → n ≤ l.number;
  out : OnlyTheirs l.main.view.out l.workers.items;
  lent : AreOfPhase (task_of l.task) l.posting l.initial.main.view.base l.workers.items;
}

abbrev pub decreases-loop-number : goal.decreases-loop-number
decreases-loop-number g l = l.posting.workers - l.number
