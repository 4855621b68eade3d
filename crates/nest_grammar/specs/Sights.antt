-- Sights: what is still to be read of a text, and what was counted on the way.
use Rattle.std.specs.Prelude.{◌≡◌, ℕ, zero, suc, ◌+◌, List, [], ◌∷◌, ◌++◌, length}
use Rattle.nest_tokens.specs.declared.token.Token.{Token}
use Rattle.nest_tokens.specs.declared.token.Token.TheVariants as token
use Rattle.nest_tokens.specs.declared.token.Mark.{Mark}
use Rattle.nest_tokens.specs.declared.token.Name.{Name}
use Rattle.nest_tokens.specs.declared.token.Spot.{Spot}
use Rattle.nest_tokens.specs.Lexing.{tokens}
use Rattle.nest_tokens.specs.Ahead.{first, rest}
use Rattle.nest_grammar.specs.declared.version.Version.{Version}
use Rattle.nest_grammar.specs.declared.version.Version.TheVariants.{One}

-- The tokens that are left, the size of the text, and its version, once that was read. Of the
-- expression: how many of its tokens were taken. Of the block: how many accesses were begun, how many
-- of these were numbered, and the names of its locals by their numbers.
pub record Sight : Type 0 where
  pub left : List Spot
  pub size : ℕ
  pub version : Version
  pub spent : ℕ
  pub opened : ℕ
  pub accesses : ℕ
  pub lets : List Name

-- the token that stands here, with its place
unfoldable pub here : Sight → Spot
here s = first s.size s.left

abbrev pub stands : Sight → Token
stands s = (here s).token

-- this sign or word stands here
abbrev pub Sees : Mark → Sight → Type 0
Sees m s = stands s ≡ token.Plain m

-- past one token; at the end it stays
unfoldable pub skip : Sight → Sight
skip s = record s { left = rest s.left }

-- past so many tokens
abbrev pub beyond : ℕ → Sight → Sight
beyond zero s = s
beyond (suc n) s = skip (beyond n s)

-- past one token of an expression
abbrev pub spend : Sight → Sight
spend s = record (skip s) { spent = s.spent + 1 }

-- an expression begins
abbrev pub afresh : Sight → Sight
afresh s = record s { spent = 0 }

-- one more access is begun
abbrev pub opens : Sight → Sight
opens s = record s { opened = s.opened + 1 }

-- one more access is numbered
abbrev pub numbered : Sight → Sight
numbered s = record s { accesses = s.accesses + 1 }

-- one more local of the block
abbrev pub bound : Name → Sight → Sight
bound n s = record s { lets = s.lets ++ n ∷ [] }

-- a block begins
abbrev pub in_block : Sight → Sight
in_block s = record s { opened = 0; accesses = 0; lets = [] }

-- the version was read
abbrev pub of_version : Version → Sight → Sight
of_version v s = record s { version = v }

-- the whole text
abbrev pub start : List ℕ → Sight
start text = record { left = tokens text; size = length text; version = One; spent = 0; opened = 0; accesses = 0; lets = [] }
