-- Ahead: what is still to be read of a text.
use Rattle.std.specs.Prelude.{ℕ, List, [], ◌∷◌, length}
use Rattle.nest_tokens.specs.declared.token.Token.{Token}
use Rattle.nest_tokens.specs.declared.token.Token.TheVariants as token
use Rattle.nest_tokens.specs.declared.token.Spot.{Spot}
use Rattle.nest_tokens.specs.Lexing.{tokens}

-- the tokens that are left, and the size of the text
pub record Ahead : Type 0 where
  pub left : List Spot
  pub size : ℕ

-- the first token, or the end of a text of this size
abbrev pub first : ℕ → List Spot → Spot
first size [] = record { at = size; token = token.End }
first size (x ∷ xs) = x

-- the token that stands here, with its place
unfoldable pub here : Ahead → Spot
here a = first a.size a.left

-- the token that stands here
abbrev pub stands : Ahead → Token
stands a = (here a).token

-- all but the first
abbrev pub rest : List Spot → List Spot
rest [] = []
rest (x ∷ xs) = xs

-- past one token; at the end it stays
unfoldable pub past : Ahead → Ahead
past a = record a { left = rest a.left }

-- the whole text
abbrev pub whole : List ℕ → Ahead
whole text = record { left = tokens text; size = length text }
