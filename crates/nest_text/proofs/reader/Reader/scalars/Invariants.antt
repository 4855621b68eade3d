use Rattle.std.proofs.Common.{◌≡◌, length}
use Rattle.nest_tokens.specs.declared.token.Mark.TheVariants.{Scalar}
use Rattle.nest_grammar.specs.Readings.{at_mark, many, always}
use Rattle.nest_grammar.specs.Names.{names_of}
use Rattle.nest_grammar.specs.Contents.{scalar, scalars}
use Rattle.nest_text.proofs.reader.Reader.scalars.Given as goal

abbrev pub invariant-scalars : goal.invariant-scalars
invariant-scalars l = record {
  rest : many (at_mark Scalar) (always scalar) l.scalars l.self ≡ scalars l.fn.self;
  named : l.names.items ≡ names_of l.scalars;
}

abbrev pub decreases-scalars : goal.decreases-scalars
decreases-scalars l = length l.self.left
