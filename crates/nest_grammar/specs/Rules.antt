-- Rules: what holds of every file that a text is.
use Rattle.std.specs.Prelude.{◌≡◌, ℕ, ◌+◌, ◌<◌, ◌≤◌, List, length, Bool, true, nat_le}
use Rattle.std.specs.List.{All}
use Rattle.nest_lang.specs.Rules.{NestKeeps}
use Rattle.nest_tokens.specs.declared.token.Name.{Name}
use Rattle.nest_tokens.specs.Lexing.{is_letter, is_name_byte, name_of}
use Rattle.nest_tokens.specs.Division.{Begins, AllPass}
use Rattle.nest_grammar.specs.declared.file.File.{File}
use Rattle.nest_grammar.specs.declared.file.Item.{Item}
use Rattle.nest_grammar.specs.declared.file.Item.TheVariants.{Data, Ramp}
use Rattle.nest_grammar.specs.Contents.{ramp_fits}
use Rattle.nest_grammar.specs.Limits.{most_words, most_scalars, most_nests}
use Rattle.nest_grammar.specs.Grammar.{Reads}

-- a letter, and then letters, digits and _, at most 32 bytes
abbrev pub IsSpelled : Name → Type 0
IsSpelled n = (s : List ℕ) × (n ≡ name_of s) × (length s ≤ 32) × Begins is_letter s × AllPass is_name_byte s

-- the words that an item sets are words of the memory, and its values are i64
abbrev pub item_fits : ℕ → Item → Bool
item_fits words (Data first values) = nat_le (first + length values) words
item_fits words (Ramp first count stride start growth) = ramp_fits words first count stride start growth

pub record KeepsRules (file : File) : Type 0 where
  pub few_scalars : length file.scalars ≤ most_scalars
  pub spelled : All (λ c. IsSpelled c.name) file.scalars
  pub few_words : file.words ≤ most_words
  pub items_fit : All (λ i. item_fits file.words i ≡ true) file.items
  pub some_nest : 0 < length file.units
  pub few_nests : length file.units ≤ most_nests
  pub nests_keep : All (λ u. NestKeeps (length file.scalars) u.nest.loops) file.units

abbrev pub FilesKeepRules : Type 0
FilesKeepRules = (text : List ℕ) (file : File) → Reads text file → KeepsRules file
