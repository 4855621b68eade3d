use Rattle.std.proofs.Common.{◌≡◌, take}
use Rattle.row_verdicts.proofs.system.row_of.Given as goal

abbrev pub invariant-loop-number : goal.invariant-loop-number
invariant-loop-number l = l.coef.items ≡ take l.number-index l.numbers
