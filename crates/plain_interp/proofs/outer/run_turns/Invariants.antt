use Rattle.std.proofs.Common.{◌≡◌, ◌+◌, ◌<◌, ◌+ℤ◌, FitsSigned, w64, ℕ, pos}
use Rattle.nest_lang.specs.Traces.{Done}
use Rattle.nest_lang.specs.Turns.{turns_trace, turns_later, IsPositionIn}
use Rattle.block_exec.specs.Moments.{Ran}
use Rattle.block_exec.specs.Halts.{IsTrap}
use Rattle.block_exec.specs.Runs.{Kept, outside}
use Rattle.plain_interp.proofs.outer.run_turns.Given as goal

abbrev pub invariant-loop-done : goal.invariant-loop-done
invariant-loop-done g l = record {
  outer : l.outer ≡ turns_later l.fn.outer l._done;
  position : IsPositionIn l.nest.loops l.outer;
  number : FitsSigned w64 (l.outer.next +ℤ pos l.run.steps.left);
  kept : Kept g.P.Port.expects g.P.Port.basis l.fn.run l.run;
  halt : IsTrap l.run.halt;
  so_far : (k : ℕ) → l.fn.run.steps.left < k →
      Ran g.W.Watch.may (turns_trace (g.P.Port.expects l.fn.run.port.now) k l.nest.loops l.fn.outer l._done) (outside g.P.Port.memory l.fn.run) (outside g.P.Port.memory l.run) Done;
}
