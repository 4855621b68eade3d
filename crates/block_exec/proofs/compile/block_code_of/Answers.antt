use Rattle.std.proofs.Common.{◌≡◌}
use Rattle.block_exec.proofs.BlockCodeLaws.{acts-whole}
use Rattle.block_exec.proofs.compile.block_code_of.Goals as goal

pub returns : goal.returns
returns c = record {
  few = c.in_ok-acts.ensures.begins.1;
  is = acts-whole _ _ _ c.in_ok-acts.ensures.acts;
}
