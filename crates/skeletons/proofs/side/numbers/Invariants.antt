use Rattle.std.proofs.Common.{◌≡◌, take}
use Rattle.skeletons.proofs.side.numbers.Given as goal

abbrev pub invariant-loop-number : goal.invariant-loop-number
invariant-loop-number g l = l.numbers.items ≡ take l.number-index l.array
