use Rattle.std.proofs.Common.{◌≡◌, length}
use Rattle.nest_tokens.specs.declared.token.Mark.TheVariants.{Comma}
use Rattle.nest_grammar.specs.Readings.{at_mark, many, always}
use Rattle.nest_grammar.specs.Contents.{next_value, data_values}
use Rattle.nest_text.proofs.reader.Reader.data_values.Given as goal

abbrev pub invariant-values : goal.invariant-values
invariant-values l = many (at_mark Comma) (always (next_value l.words l.first)) l.values l.self ≡ data_values l.fn.words l.fn.first l.fn.self

abbrev pub decreases-values : goal.decreases-values
decreases-values l = length l.self.left
