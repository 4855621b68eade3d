use Rattle.nest_text.proofs.ProductionLaws.{padded-is}
use Rattle.nest_text.proofs.script.padded.Goals as goal

pub returns : goal.returns
returns c = padded-is _ _ _ c.spelling-spelled.ensures.spelled c.copy_from_slice.ensures.after
