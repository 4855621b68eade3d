use Rattle.nest_lang.proofs.AccessLaws.{accesses_of-within}
use Rattle.nest_shown.proofs.RuleLaws.{few-loops-of}
use Rattle.nest_shown.proofs.blocks.write_block.Goals as goal

pub accesses-accesses-requires : goal.accesses-accesses-requires
accesses-accesses-requires c = accesses_of-within c.in-Some.ensures.rules c.args.block

pub block_text-requires : goal.block_text-requires
block_text-requires c = few-loops-of c.in-Some.ensures.rules
