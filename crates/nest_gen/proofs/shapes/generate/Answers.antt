use Rattle.std.proofs.Common.{◌∙◌}
use Rattle.nest_gen.proofs.AllRead.{never-refused}
use Rattle.nest_gen.proofs.shapes.generate.Goals as goal

pub unreachable-requires : goal.unreachable-requires
unreachable-requires c =
    never-refused c.args.shape c.args.seed c.args.size c.as_bytes.result.now c.read_nest.result c.in-Err-Text.field-0 c.in-Err-Text.field-0-0 c.requires.from c.requires.to
    (c.as_bytes.ensures.value ∙ c.in_ok-text.ensures) c.read_nest.ensures.reading c.in-Err-Text.is c.in-Err-Text.field-0-is
