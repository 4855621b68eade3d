-- Scripts: the canonical line of a candidate.
use Rattle.std.specs.Prelude.{ℕ, ℤ, List, [], ◌∷◌, ◌++◌}
use Rattle.std.specs.List.{flat_map}
use Rattle.nest_lang.specs.declared.command.Command.{Command}
use Rattle.nest_lang.specs.declared.command.Command.TheVariants.{Seq, Swap, Skew, Tile, Par, Wave}
use Rattle.nest_tokens.specs.declared.token.Mark.TheVariants as mark
use Rattle.nest_tokens.specs.Lexing.{name_of}
use Rattle.nest_grammar.specs.declared.script.CommandWord.{CommandWord}
use Rattle.nest_grammar.specs.declared.script.CommandWord.TheVariants as word
use Rattle.nest_grammar.specs.Scripts.{Script, word_spelling}
use Rattle.canonical.specs.Pieces.{Piece, Space, plain, name, number, signed, line}

-- the word of a command, which is a name
abbrev pub command_name : CommandWord → Piece
command_name w = name (name_of (word_spelling w))

-- a number behind a space
abbrev pub operand : ℕ → List Piece
operand n = Space ∷ number n ∷ []

abbrev pub signed_operand : ℤ → List Piece
signed_operand z = Space ∷ signed z

unfoldable pub command_of : Command → List Piece
command_of (Seq n) = command_name word.Seq ∷ operand n
command_of (Swap a b) = command_name word.Swap ∷ operand a ++ operand b
command_of (Skew a b m) = command_name word.Skew ∷ operand a ++ operand b ++ signed_operand m
command_of (Tile a n) = command_name word.Tile ∷ operand a ++ signed_operand n
command_of (Par rows) = command_name word.Par ∷ flat_map operand rows.items
command_of (Wave rows) = command_name word.Wave ∷ flat_map operand rows.items

abbrev pub next_command : Command → List Piece
next_command c = plain mark.Semicolon ∷ Space ∷ command_of c

-- the commands of a script, with a space behind the last
unfoldable pub commands_of : Script → List Piece
commands_of [] = []
commands_of (c ∷ cs) = command_of c ++ flat_map next_command cs ++ Space ∷ []

-- "candidate" "{" [ command { ";" command } ] "}"
unfoldable pub candidate_line : Script → List Piece
candidate_line cs = line 0 (plain mark.Candidate ∷ Space ∷ plain mark.OpenBrace ∷ Space ∷ commands_of cs ++ plain mark.CloseBrace ∷ [])
