-- The words of commands.
use Rattle.std.proofs.Common.{◌≡◌, refl}
use Rattle.nest_tokens.specs.Lexing.{name_of}
use Rattle.nest_tokens.specs.Spellings.{name_text}
use Rattle.nest_grammar.specs.declared.script.CommandWord.{CommandWord}
use Rattle.nest_grammar.specs.declared.script.CommandWord.TheVariants as word
use Rattle.nest_grammar.specs.Scripts.{word_spelling}

-- a command's word has no zeros, so that all of it is written
pub word-text : (w : CommandWord) → name_text (name_of (word_spelling w)) ≡ word_spelling w
unfolding name_text word_spelling
word-text word.Seq = refl
word-text word.Swap = refl
word-text word.Skew = refl
word-text word.Tile = refl
word-text word.Par = refl
word-text word.Wave = refl

pub ruleset words = (word-text)
