-- Modes: the word of each mode that is built, and the values behind it.
use Rattle.std.specs.Prelude.{◌≡◌, pos, List, [], ◌∷◌, Option, Some, None, codes}
use Rattle.clap.specs.Words.{Text}
use Rattle.command_line.specs.declared.invocation.Mode.{Mode}
use Rattle.command_line.specs.declared.invocation.Mode.TheVariants.{Plain, Run, Check, Deps, Gen}
use Rattle.command_line.specs.declared.recipe.Recipe.{Recipe}
use Rattle.command_line.specs.declared.recipe.Shape.{Shape}
use Rattle.command_line.specs.declared.recipe.Shape.TheVariants as shape
use Rattle.command_line.specs.Numbers.{IsNumberIn}

abbrev pub word_of : Mode → Text
word_of Plain = codes "plain"
word_of Run = codes "run"
word_of Check = codes "check"
word_of Deps = codes "deps"
word_of (Gen recipe) = codes "gen"

abbrev pub shape_word : Shape → Text
shape_word shape.Copy = codes "copy"
shape_word shape.List = codes "list"
shape_word shape.Grid = codes "grid"

-- three texts are a recipe: a seed, the word of a shape and a size, in their ranges
pub record IsRecipe (texts : List Text) (recipe : Recipe) : Type 0 where
  pub seed : Text
  pub size : Text
  pub texts_are : texts ≡ seed ∷ shape_word recipe.shape ∷ size ∷ []
  pub seed_is : IsNumberIn 0 4294967295 seed (pos recipe.seed)
  pub size_is : IsNumberIn 1 256 size (pos recipe.size)

-- mode `gen` has values, which are its recipe; no other mode has any
abbrev pub HasArguments : Mode → Option (List Text) → Type 0
HasArguments (Gen recipe) arguments = (texts : List Text) × (arguments ≡ Some texts) × IsRecipe texts recipe
HasArguments mode arguments = arguments ≡ None

-- a word and the values behind it are those of a mode
pub record IsModeOf (word : Text) (arguments : Option (List Text)) (mode : Mode) : Type 0 where
  pub word_is : word ≡ word_of mode
  pub has : HasArguments mode arguments
