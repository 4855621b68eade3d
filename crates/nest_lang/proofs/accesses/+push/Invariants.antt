use Rattle.std.proofs.Common.{◌≡◌, ◌+◌, ◌++◌, length, drop}
use Rattle.arrayvec.specs.ArrayVec.{array_vec_len}
use Rattle.nest_lang.specs.Accesses.{block_accesses}
use Rattle.nest_lang.proofs.accesses.+push.Given as goal

abbrev pub invariant-push_block-loop-statement : goal.invariant-push_block-loop-statement
invariant-push_block-loop-statement l = record {
  items : l.accesses.items ++ block_accesses (drop l.statement-index l.block) ≡ l.fn.accesses.items ++ block_accesses l.block;
  len : array_vec_len l.accesses + length (block_accesses (drop l.statement-index l.block)) ≡ array_vec_len l.fn.accesses + length (block_accesses l.block);
}
