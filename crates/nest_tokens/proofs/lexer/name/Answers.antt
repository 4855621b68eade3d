use Rattle.nest_tokens.proofs.NameLaws.{named-name}
use Rattle.nest_tokens.proofs.lexer.name.Goals as goal

pub returns-in-None : goal.returns-in-None
returns-in-None c = named-name _ _ c.if-spelled-gt-LONGEST_NAME.false c.keyword.ensures c.in-None.is c.copy_from_slice.ensures.after
