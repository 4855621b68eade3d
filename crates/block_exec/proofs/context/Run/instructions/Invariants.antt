use Rattle.std.proofs.Common.{◌≡◌, drop}
use Rattle.nest_lang.specs.Lookups.{look_load}
use Rattle.block_exec.specs.Watches.{Chain}
use Rattle.block_exec.specs.Sites.{frame_at}
use Rattle.block_exec.specs.Codes.{instructions_gone}
use Rattle.block_exec.specs.Runs.{Looked}
use Rattle.block_exec.specs.Coded.{instructions_at}
use Rattle.block_exec.proofs.context.Run.instructions.Given as goal

abbrev pub invariant-loop-one : goal.invariant-loop-one
invariant-loop-one g l =
    let start = l.fn.self in
    let frame = frame_at l.site (g.P.Port.expects start.port.now) in
    let find = look_load (g.P.Port.expects start.port.now) (g.P.Port.memory start.port.now) in
    record {
      looked : Looked g.P.Port.memory g.P.Port.expects g.P.Port.basis start l.self;
      rest : (instructions_gone frame start.scalars.now start.locals find (drop l.one-index l.instructions) l.registers.values).registers ≡ (instructions_at g.P.Port.memory g.P.Port.expects l.site start l.instructions l.fn.registers.values).registers;
      shown : (w : _) → Chain g.W.Watch.may l.self.watch.now (instructions_gone frame start.scalars.now start.locals find (drop l.one-index l.instructions) l.registers.values).seen w
          → Chain g.W.Watch.may start.watch.now (instructions_at g.P.Port.memory g.P.Port.expects l.site start l.instructions l.fn.registers.values).seen w;
    }
