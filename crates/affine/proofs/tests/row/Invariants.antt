use Rattle.std.proofs.Common.{◌≡◌, ◌^◌, length}
use Rattle.affine.specs.Forms.{AllWithinSize}
use Rattle.affine.proofs.tests.row.Given as goal

abbrev pub invariant-loop-number : goal.invariant-loop-number
invariant-loop-number l = record {
  long : length l.numbers.items ≡ l.number-index;
  small : AllWithinSize (2 ^ 126) l.numbers.items;
}
