-- Beginnings: what a fault depends on. It stands at a token of the text, and every text that has the same
-- tokens up to and with this one has the same fault.
use Rattle.std.specs.Prelude.{◌≡◌, ℕ, ◌≤◌, List, [], ◌∷◌, ◌++◌, length, Err}
use Rattle.nest_tokens.specs.declared.token.Token.TheVariants as token
use Rattle.nest_tokens.specs.declared.token.Spot.{Spot}
use Rattle.nest_tokens.specs.Lexing.{tokens}
use Rattle.nest_grammar.specs.declared.fault.TextFault.{TextFault}
use Rattle.nest_grammar.specs.Limits.{most_bytes}
use Rattle.nest_tokens.specs.Ahead.{first}
use Rattle.nest_grammar.specs.Sights.{Sight}
use Rattle.nest_grammar.specs.Contents.{contents, reading}

-- These begin with the same token, or neither has one and the texts end at the same place.
abbrev pub BeginAlike : ℕ → List Spot → ℕ → List Spot → Type 0
BeginAlike size [] other_size other = (other ≡ []) × (other_size ≡ size)
BeginAlike size (x ∷ xs) other_size other = (ys : List Spot) × (other ≡ x ∷ ys)

-- The fault stands behind these tokens of what is left, and is the same whatever stands behind its token.
pub record FaultBehind (s : Sight) (f : TextFault) : Type 0 where
  pub before : List Spot
  pub behind : List Spot
  pub left : s.left ≡ before ++ behind
  pub at : f.at ≡ (first s.size behind).at
  pub same : (other_size : ℕ) (other : List Spot) → BeginAlike s.size behind other_size other → contents (record s { left = before ++ other; size = other_size }) ≡ Err f

-- From any sight on: a fault depends on no token behind its own.
abbrev pub ContentsFaultNotTooEarly : Type 0
ContentsFaultNotTooEarly = (s : Sight) (f : TextFault) → contents s ≡ Err f → FaultBehind s f

-- the tokens of a text, the last of which is its end
abbrev pub with_end : List ℕ → List Spot
with_end text = tokens text ++ record { at = length text; token = token.End } ∷ []

-- The fault of a text stands at one of its tokens, and each text that has the same tokens up to and with
-- this one has the same fault.
pub record FaultAt (text : List ℕ) (f : TextFault) : Type 0 where
  pub before : List Spot
  pub spot : Spot
  pub behind : List Spot
  pub tokens : with_end text ≡ before ++ spot ∷ behind
  pub at : f.at ≡ spot.at
  pub same : (other : List ℕ) (rest : List Spot) → length other ≤ most_bytes → with_end other ≡ before ++ spot ∷ rest → reading other ≡ Err f

-- A fault is not too early: no text that begins with the tokens up to and with its own can be read.
abbrev pub FaultNotTooEarly : Type 0
FaultNotTooEarly = (text : List ℕ) (f : TextFault) → length text ≤ most_bytes → reading text ≡ Err f → FaultAt text f
