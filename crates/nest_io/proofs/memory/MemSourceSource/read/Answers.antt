use Rattle.std.proofs.Common.{arith, ap}
use Rattle.nest_io.specs.Memory.{MemorySource}
use Rattle.nest_io.proofs.TransferLaws.{front-copied}
use Rattle.nest_io.proofs.memory.MemSourceSource.read.Goals as goal

pub returns-clause-taken : goal.returns-clause-taken
returns-clause-taken c =
    front-copied _ _ _ c.args.into.now _ _ _ c.deref-2.ensures.value (ap (λ (s : MemorySource). s.left) c.self.view_is) (let count = c.copy_front-count.ensures.count in omega arith) c.copy_front-count.ensures.bytes
