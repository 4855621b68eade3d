-- The text of a seed, a shape and a size.
use Rattle.std.specs.Prelude.{ℕ, List}
use Rattle.nest_gen.specs.declared.shapes.Shape.{Shape}
use Rattle.nest_gen.specs.declared.shapes.Shape.TheVariants.{Copy, List as Linked, Grid}
use Rattle.nest_gen.specs.Texts.{copy_text, list_text, grid_text}

abbrev pub text_of : Shape → ℕ → ℕ → List ℕ
text_of Copy seed size = copy_text seed size
text_of Linked seed size = list_text seed size
text_of Grid seed size = grid_text seed size
