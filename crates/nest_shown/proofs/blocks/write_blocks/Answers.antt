use Rattle.nest_shown.proofs.RuleLaws.{few-loops-of}
use Rattle.nest_shown.proofs.blocks.write_blocks.Goals as goal

pub write_present-requires : goal.write_present-requires
write_present-requires c = few-loops-of c.in-Some.ensures.rules
