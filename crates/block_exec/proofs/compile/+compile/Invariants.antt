use Rattle.std.proofs.Common.{◌≤◌, length, take}
use Rattle.block_exec.specs.Coded.{Begins, IsActs}
use Rattle.block_exec.proofs.compile.+compile.Given as goal

abbrev pub invariant-acts_of-loop-statement : goal.invariant-acts_of-loop-statement
invariant-acts_of-loop-statement l = record {
  acts : IsActs l.inputs (take l.statement-index l.block) l.acts;
  begins : Begins l.fn.inputs l.inputs;
  few : length l.inputs ≤ 128;
}
