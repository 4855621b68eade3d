-- What holds of every generated text.
use Rattle.std.specs.Prelude.{◌≡◌, ℕ, ◌≤◌, Ok}
use Rattle.nest_grammar.specs.declared.file.File.{File}
use Rattle.nest_grammar.specs.Contents.{reading}
use Rattle.nest_gen.specs.declared.shapes.Shape.{Shape}
use Rattle.nest_gen.specs.Generated.{text_of}

-- the text of a seed, a shape and a size from 1 to 256 reads as a file
abbrev pub AlwaysReads : Type 0
AlwaysReads = (shape : Shape) (seed size : ℕ) → 1 ≤ size → size ≤ 256 → (file : File) × (reading (text_of shape seed size) ≡ Ok file)
