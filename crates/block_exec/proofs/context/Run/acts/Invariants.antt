use Rattle.std.proofs.Common.{◌≡◌, ◌-◌, length, Ok}
use Rattle.block_exec.specs.Sites.{frame_at}
use Rattle.block_exec.specs.Runs.{Kept, within}
use Rattle.block_exec.specs.Coded.{Acted}
use Rattle.block_exec.proofs.context.Run.acts.Given as goal

abbrev pub invariant-acts : goal.invariant-acts
invariant-acts g l = record {
  kept : Kept g.P.Port.expects g.P.Port.basis l.fn.self l.self;
  acted : Acted g.W.Watch.may (frame_at l.site (g.P.Port.expects l.fn.self.port.now)) l.acts 0 l.fn.registers.values l.registers.values (within g.P.Port.memory l.fn.self) (within g.P.Port.memory l.self) (Ok l.at) l.fn.self.halt;
}

abbrev pub decreases-acts : goal.decreases-acts
decreases-acts g l = length l.acts - l.at
