use Rattle.std.proofs.Common.{◌≡◌, ◌+◌, ◌-◌, ◌<◌, ◌≤◌, ◌*◌, ℕ, length}
use Rattle.nest_lang.specs.Stores.{Store}
use Rattle.nest_lang.specs.Traces.{Trace}
use Rattle.nest_lang.specs.Loops.{turns_from, whiles_from}
use Rattle.block_exec.specs.Sites.{around_at}
use Rattle.block_exec.specs.Moments.{Ran}
use Rattle.block_exec.specs.Runs.{Kept, outside}
use Rattle.plain_interp.specs.Levels.{level_trace}
use Rattle.plain_interp.proofs.TraceRunLaws.{Leads}
use Rattle.plain_interp.proofs.TurnLaws.{for_turns, while_frames, while_turns}
use Rattle.plain_interp.proofs.loops.+loops.Given as goal

abbrev pub decreases-run_loop : goal.decreases-run_loop
decreases-run_loop g l = 4 * length l.at.now.rest.now + 2

abbrev pub decreases-run_for : goal.decreases-run_for
decreases-run_for g l = 4 * length l.at.now.rest.now + 1

abbrev pub decreases-run_while : goal.decreases-run_while
decreases-run_while g l = 4 * length l.at.now.rest.now + 1

abbrev pub decreases-run_turn : goal.decreases-run_turn
decreases-run_turn g l = 4 * length l.at.now.rest.now

abbrev pub decreases-run_while-turns : goal.decreases-run_while-turns
decreases-run_while-turns g l = l.run.steps.left

abbrev pub invariant-run_for-loop-turn : goal.invariant-run_for-loop-turn
invariant-run_for-loop-turn g l =
    let place = around_at l.at.depth l.fn.places in
    let turns : ℕ → ℕ → Store → Trace = λ k. for_turns (g.P.Port.expects l.fn.run.port.now) k (l.at.depth + 1) l.at.first.now l.at.rest.now place l.bounds.stride l.bounds.lower in
    record {
      few : l.turn + l.run.steps.left ≤ l.fn.run.steps.left;
      kept : Kept g.P.Port.expects g.P.Port.basis l.fn.run l.run;
      places : around_at l.at.depth l.places ≡ place;
      leads : (k : ℕ) → l.fn.run.steps.left < k →
          Leads g.W.Watch.may (turns_from (l.bounds.trip - l.turn) l.turn (turns k)) (outside g.P.Port.memory l.run)
          (Ran g.W.Watch.may (turns_from l.bounds.trip 0 (turns k)) (outside g.P.Port.memory l.fn.run));
    }

abbrev pub invariant-run_while-turns : goal.invariant-run_while-turns
invariant-run_while-turns g l =
    let x = g.P.Port.expects l.fn.run.port.now in
    let place = around_at l.at.depth l.fn.places in
    record {
      few : l.turn + l.run.steps.left ≤ l.fn.run.steps.left;
      kept : Kept g.P.Port.expects g.P.Port.basis l.fn.run l.run;
      places : around_at l.at.depth l.places ≡ place;
      leads : (k : ℕ) → l.fn.run.steps.left < k →
          Leads g.W.Watch.may (whiles_from (k - l.turn) l.turn (while_frames x (l.at.depth + 1) place) l.at.first.now.head (while_turns x k (l.at.depth + 1) l.at.first.now l.at.rest.now place)) (outside g.P.Port.memory l.run)
          (Ran g.W.Watch.may (level_trace x l.at place k) (outside g.P.Port.memory l.fn.run));
    }
