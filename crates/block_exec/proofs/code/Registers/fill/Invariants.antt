use Rattle.std.proofs.Common.{◌≡◌, length}
use Rattle.block_exec.proofs.InputLaws.{HoldFirst}
use Rattle.block_exec.proofs.code.Registers.fill.Given as goal

abbrev pub invariant-loop-at : goal.invariant-loop-at
invariant-loop-at l = record {
  first : HoldFirst l.site.values.now l.inputs l.at l.self.values;
  room : length l.self.values ≡ 256;
}
