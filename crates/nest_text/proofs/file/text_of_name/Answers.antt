use Rattle.std.proofs.Common.{sym, subst}
use Rattle.std.specs.Str.{IsUtf8}
use Rattle.nest_text.proofs.ScalarNameLaws.{spelled-text}
use Rattle.nest_text.proofs.file.text_of_name.Goals as goal

pub unreachable-requires : goal.unreachable-requires
unreachable-requires c = c.in_default.ensures.cases.0 (subst IsUtf8 (sym c.text.ensures) (spelled-text c.args.name.now c.requires))
