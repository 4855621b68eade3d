use Rattle.std.proofs.Common.{◌∙◌}
use Rattle.nest_tokens.specs.Tokens.{is_mark}
use Rattle.nest_tokens.proofs.MarkLaws.{is-same}
use Rattle.nest_tokens.proofs.token.Token.is.Goals as goal

pub returns-in-Plain : goal.returns-in-Plain
unfolding is_mark
returns-in-Plain c = rw c.in-Plain.is (c.eq.ensures ∙ is-same c.args.mark c.in-Plain.other)
