-- Contents: the canonical text of a file.
use Rattle.std.specs.Prelude.{ℕ, ℤ, List, [], ◌∷◌, ◌++◌}
use Rattle.std.specs.List.{flat_map}
use Rattle.nest_tokens.specs.declared.token.Mark.TheVariants as mark
use Rattle.nest_grammar.specs.declared.version.Version.{Version}
use Rattle.nest_grammar.specs.declared.version.Version.TheVariants.{One, Two}
use Rattle.nest_grammar.specs.declared.file.Scalar.{Scalar}
use Rattle.nest_grammar.specs.declared.file.Item.{Item}
use Rattle.nest_grammar.specs.declared.file.Item.TheVariants.{Data, Ramp}
use Rattle.nest_grammar.specs.declared.file.LoopNames.{LoopNames}
use Rattle.nest_grammar.specs.declared.file.NestUnit.{NestUnit}
use Rattle.nest_grammar.specs.declared.file.File.{File}
use Rattle.canonical.specs.Pieces.{Piece, Space, plain, name, signed, spaced, line, text_of}
use Rattle.canonical.specs.Labels.{Labels}
use Rattle.canonical.specs.Loops.{loop_lines}
use Rattle.canonical.specs.Scripts.{operand, signed_operand, candidate_line}

abbrev pub version_number : Version → ℕ
version_number One = 1
version_number Two = 2

unfoldable pub version_line : Version → List Piece
version_line v = line 0 (plain mark.Nest ∷ operand (version_number v))

unfoldable pub scalar_line : Scalar → List Piece
scalar_line c = line 0 (plain mark.Scalar ∷ Space ∷ name c.name ∷ spaced mark.Assign ++ signed c.value)

unfoldable pub memory_line : ℕ → List Piece
memory_line words = line 0 (plain mark.Memory ∷ operand words)

abbrev pub next_value : ℤ → List Piece
next_value v = plain mark.Comma ∷ signed_operand v

-- the values of words; there is at least one
unfoldable pub value_list : List ℤ → List Piece
value_list [] = []
value_list (v ∷ vs) = signed_operand v ++ flat_map next_value vs

unfoldable pub item_line : Item → List Piece
item_line (Data first vs) = line 0 (plain mark.Data ∷ operand first ++ plain mark.Colon ∷ value_list vs)
item_line (Ramp first count stride start growth) = line 0 (plain mark.Ramp ∷ operand first ++ operand count ++ operand stride ++ signed_operand start ++ signed_operand growth)

-- the names of a nest
abbrev pub labels_in : List Scalar → List LoopNames → Labels
labels_in scalars names = record { scalars = scalars; loops = names; lets = [] }

-- a nest's loops, then its candidates
unfoldable pub unit_lines : List Scalar → NestUnit → List Piece
unit_lines scalars u = loop_lines (labels_in scalars u.names) 0 u.nest.loops ++ flat_map candidate_line u.scripts

-- the pieces of a file
unfoldable pub pieces : File → List Piece
pieces f = version_line f.version ++ flat_map scalar_line f.scalars ++ memory_line f.words ++ flat_map item_line f.items ++ flat_map (unit_lines f.scalars) f.units

-- The canonical text of a file.
unfoldable pub canonical : File → List ℕ
canonical f = text_of (pieces f)
