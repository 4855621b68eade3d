use Rattle.std.proofs.Common.{◌≡◌, length}
use Rattle.nest_tokens.specs.declared.token.Mark.TheVariants.{Semicolon}
use Rattle.nest_grammar.specs.Readings.{at_mark, many, always}
use Rattle.nest_grammar.specs.Scripts.{next_command}
use Rattle.nest_text.specs.Parts.{commands}
use Rattle.nest_text.proofs.reader.Reader.commands.Given as goal

abbrev pub invariant-commands : goal.invariant-commands
invariant-commands l = many (at_mark Semicolon) (always (next_command l.depth)) l.commands l.self ≡ commands l.fn.depth l.fn.self

abbrev pub decreases-commands : goal.decreases-commands
decreases-commands l = length l.self.left
