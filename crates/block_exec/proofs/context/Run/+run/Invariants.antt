use Rattle.std.proofs.Common.{◌≡◌, drop}
use Rattle.nest_lang.specs.Traces.{cut, seen_in}
use Rattle.nest_lang.specs.Statements.{block_trace}
use Rattle.block_exec.specs.Watches.{Chain}
use Rattle.block_exec.specs.Sites.{frame_at}
use Rattle.block_exec.specs.Runs.{Kept, within}
use Rattle.block_exec.proofs.context.Run.+run.Given as goal

abbrev pub invariant-statements-loop-statement : goal.invariant-statements-loop-statement
invariant-statements-loop-statement g l =
    let frame = frame_at l.site (g.P.Port.expects l.fn.self.port.now) in
    let start = (within g.P.Port.memory l.fn.self).store in
    let here = (within g.P.Port.memory l.self).store in
    record {
      kept : Kept g.P.Port.expects g.P.Port.basis l.fn.self l.self;
      rest : cut (block_trace frame (drop l.statement-index l.statements) here) here l.self.steps.left l.self.steps.used
          ≡ cut (block_trace frame l.statements start) start l.fn.self.steps.left l.fn.self.steps.used;
      shown : (w : _) → Chain g.W.Watch.may l.self.watch.now (seen_in (block_trace frame (drop l.statement-index l.statements) here) l.self.steps.left) w
          → Chain g.W.Watch.may l.fn.self.watch.now (seen_in (block_trace frame l.statements start) l.fn.self.steps.left) w;
    }
