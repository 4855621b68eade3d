use Rattle.std.proofs.Common.{◌≡◌, length, take}
use Rattle.block_exec.specs.NestCodes.{AreLoopCodes}
use Rattle.block_exec.proofs.nest_code.NestCode.new.Given as goal

abbrev pub invariant-loop-one : goal.invariant-loop-one
invariant-loop-one l = record {
  codes : AreLoopCodes (take l.one-index l.nest.loops) l.loops;
  count : length l.loops ≡ l.one-index;
}
