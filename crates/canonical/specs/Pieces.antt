-- Pieces: what a canonical text is made of.
use Rattle.std.specs.Prelude.{ℕ, suc, ◌*◌, ℤ, pos, negsuc, List, [], ◌∷◌, ◌++◌, replicate}
use Rattle.std.specs.List.{flat_map}
use Rattle.std.specs.Fmt.{decimal}
use Rattle.nest_tokens.specs.declared.token.Name.{Name}
use Rattle.nest_tokens.specs.declared.token.Mark.{Mark}
use Rattle.nest_tokens.specs.declared.token.Mark.TheVariants as mark
use Rattle.nest_tokens.specs.declared.token.Token.{Token}
use Rattle.nest_tokens.specs.declared.token.Token.TheVariants as token
use Rattle.nest_tokens.specs.Tokens.{spelling}
use Rattle.nest_tokens.specs.Spellings.{name_text}

-- a token, one space, the indent of a line, which is two spaces for each open brace, or a line's end
pub data Piece : Type 0 where
  Word : Token → Piece
  Space : Piece
  Indent : ℕ → Piece
  Newline : Piece

-- how a token is written; none is written that is not one
unfoldable pub token_text : Token → List ℕ
token_text (token.Name n) = name_text n
token_text (token.Number n) = decimal n
token_text (token.Plain m) = spelling m
token_text (token.Bad b) = []
token_text token.End = []

unfoldable pub piece_text : Piece → List ℕ
piece_text (Word t) = token_text t
piece_text Space = 32 ∷ []
piece_text (Indent n) = replicate (2 * n) 32
piece_text Newline = 10 ∷ []

-- the bytes of pieces
unfoldable pub text_of : List Piece → List ℕ
text_of ps = flat_map piece_text ps

-- a sign or a keyword
abbrev pub plain : Mark → Piece
plain m = Word (token.Plain m)

abbrev pub name : Name → Piece
name n = Word (token.Name n)

abbrev pub number : ℕ → Piece
number n = Word (token.Number n)

-- [ "-" ] number
unfoldable pub signed : ℤ → List Piece
signed (pos n) = number n ∷ []
signed (negsuc n) = plain mark.Minus ∷ number (suc n) ∷ []

-- a sign or a word with one space on each side
abbrev pub spaced : Mark → List Piece
spaced m = Space ∷ plain m ∷ Space ∷ []

-- a line within so many open braces
unfoldable pub line : ℕ → List Piece → List Piece
line depth ps = Indent depth ∷ ps ++ Newline ∷ []
