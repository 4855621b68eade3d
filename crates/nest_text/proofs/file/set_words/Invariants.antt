use Rattle.std.proofs.Common.{◌≡◌, ◌+◌, length, drop}
use Rattle.nest_grammar.specs.Files.{set_words}
use Rattle.nest_text.proofs.file.set_words.Given as goal

abbrev pub invariant-values : goal.invariant-values
invariant-values l = (set_words l.fn.first l.values l.fn.memory ≡ set_words (l.fn.first + l.number) (drop l.number l.values) l.memory) × (length l.memory ≡ length l.fn.memory)
