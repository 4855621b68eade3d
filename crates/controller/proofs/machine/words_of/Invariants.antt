use Rattle.std.proofs.Common.{◌≡◌, take}
use Rattle.shared_words.specs.Memories.{signed}
use Rattle.controller.proofs.machine.words_of.Given as goal

abbrev pub invariant-loop-address : goal.invariant-loop-address
invariant-loop-address l = (l.main ≡ l.initial.main) × (l.memory.items ≡ take l.address (signed l.fn.main.view.base))
