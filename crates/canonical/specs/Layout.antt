-- Layout: the words of pieces, and when these are what the bytes of the pieces are read as.
use Rattle.std.specs.Prelude.{◌≡◌, ℕ, ◌^◌, ◌<◌, ◌≤◌, List, [], ◌∷◌, length, None}
use Rattle.nest_tokens.specs.declared.token.Token.{Token}
use Rattle.nest_tokens.specs.declared.token.Token.TheVariants as token
use Rattle.nest_tokens.specs.Tokens.{keyword_of}
use Rattle.nest_tokens.specs.Lexing.{is_letter, is_name_byte, name_of}
use Rattle.nest_tokens.specs.Division.{Begins, AllPass}
use Rattle.canonical.specs.Pieces.{Piece, Word, Space, Indent, Newline}

-- the tokens of pieces
abbrev pub words : List Piece → List Token
words [] = []
words (Word t ∷ ps) = t ∷ words ps
words (Space ∷ ps) = words ps
words (Indent n ∷ ps) = words ps
words (Newline ∷ ps) = words ps

-- A token that a text can have: a name has the spelling of one and is no keyword, a number is at most
-- 2^63 - 1.
abbrev pub IsWritten : Token → Type 0
IsWritten (token.Name n) = (s : List ℕ) × (n ≡ name_of s) × (length s ≤ 32) × Begins is_letter s × AllPass is_name_byte s × (keyword_of s ≡ None)
IsWritten (token.Number n) = n < 2 ^ 63
IsWritten (token.Plain m) = Unit {0}
IsWritten (token.Bad b) = ⊥
IsWritten token.End = ⊥

abbrev pub AllWritten : List Piece → Type 0
AllWritten [] = Unit {0}
AllWritten (Word t ∷ ps) = IsWritten t × AllWritten ps
AllWritten (Space ∷ ps) = AllWritten ps
AllWritten (Indent n ∷ ps) = AllWritten ps
AllWritten (Newline ∷ ps) = AllWritten ps
