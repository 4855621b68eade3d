-- Lexing: what separates tokens, and the tokens of a text, each with its place.
use Rattle.std.specs.Prelude.{ℕ, zero, suc, ◌+◌, ◌-◌, ◌*◌, ◌^◌, ◌<◌, List, [], ◌∷◌, ◌++◌, length, take, drop, replicate, Bool, true, false, not, Option, Some, None, ◌==◌, nat_le, nat_lt, ◌&&◌, ◌||◌, if◌then◌else◌}
use Rattle.std.specs.List.{prefix_len}
use Rattle.nest_tokens.specs.declared.token.Name.{Name}
use Rattle.nest_tokens.specs.declared.token.Mark.{Mark}
use Rattle.nest_tokens.specs.declared.token.Token.{Token}
use Rattle.nest_tokens.specs.declared.token.Token.TheVariants as token
use Rattle.nest_tokens.specs.declared.token.BadToken.TheVariants as bad
use Rattle.nest_tokens.specs.declared.token.Spot.{Spot}
use Rattle.nest_tokens.specs.Tokens.{spelling, keyword_of, sign_at}

-- a to z or _
abbrev pub is_letter : ℕ → Bool
is_letter b = (b == 95) || (nat_le 97 b && nat_le b 122)

-- 0 to 9
abbrev pub is_digit : ℕ → Bool
is_digit b = nat_le 48 b && nat_le b 57

abbrev pub is_name_byte : ℕ → Bool
is_name_byte b = is_letter b || is_digit b

-- a space, a tab, a newline or a carriage return
abbrev pub is_blank : ℕ → Bool
is_blank b = (b == 32) || ((b == 9) || ((b == 10) || (b == 13)))

-- Between tokens: is what follows this byte in a comment? None where a token begins. A comment is from
-- # to the next newline or the end.
unfoldable pub between : Bool → ℕ → Option Bool
between true b = Some (not (b == 10))
between false b = if is_blank b then Some false else (if b == 35 then Some true else None)

abbrev pub gap_at : (Bool → List ℕ) → List ℕ → Option Bool → List ℕ
gap_at go bs None = bs
gap_at go bs (Some comment) = go comment

-- a text without the blanks and comments in front; it may begin in a comment
unfoldable pub gap : Bool → List ℕ → List ℕ
gap comment [] = []
gap comment (b ∷ bs) = gap_at (λ c. gap c bs) (b ∷ bs) (between comment b)

-- the value of decimal digits, behind a number
abbrev pub decimal_from : ℕ → List ℕ → ℕ
decimal_from n [] = n
decimal_from n (d ∷ ds) = decimal_from (n * 10 + (d - 48)) ds

unfoldable pub decimal : List ℕ → ℕ
decimal ds = decimal_from 0 ds

-- a number, where it is below a limit
abbrev pub below : ℕ → ℕ → Option ℕ
below limit n = if nat_lt n limit then Some n else None

-- a run of digits: a number, where its value is at most 2^63 - 1
unfoldable pub numbered : List ℕ → Token
numbered ds = if nat_lt (decimal ds) (2 ^ 63) then token.Number (decimal ds) else token.Bad bad.Number

-- a number is at most 2^63 - 1
abbrev pub FitsI64 : Token → Type 0
FitsI64 (token.Number n) = n < 2 ^ 63
FitsI64 _ = Unit {0}

-- a name of at most 32 bytes, kept with zeros behind it
abbrev pub name_of : List ℕ → Name
name_of s = record { bytes = s ++ replicate (32 - length s) 0 }

abbrev pub keyword_or_name : Option Mark → List ℕ → Token
keyword_or_name (Some keyword) s = token.Plain keyword
keyword_or_name None s = token.Name (name_of s)

-- a run of letters, digits and _: a keyword, or a name of at most 32 bytes
unfoldable pub named : List ℕ → Token
named s = if nat_lt 32 (length s) then token.Bad bad.Name else keyword_or_name (keyword_of s) s

-- a token, and how many bytes it has
pub record Lexed : Type 0 where
  pub token : Token
  pub len : ℕ

abbrev pub spelled_by : List ℕ → ℕ → (List ℕ → Token) → Lexed
spelled_by bs n token = record { token = token (take n bs); len = n }

abbrev pub sign_or_byte : Option Mark → Lexed
sign_or_byte (Some sign) = record { token = token.Plain sign; len = length (spelling sign) }
sign_or_byte None = record { token = token.Bad bad.Byte; len = 1 }

-- The token that a text begins with: the longest run of letters, digits and _ where it begins with a
-- letter, the longest run of digits where it begins with a digit, and else the longest sign.
unfoldable pub lexed : List ℕ → Lexed
lexed [] = record { token = token.End; len = 0 }
lexed (b ∷ bs) =
    if is_letter b then spelled_by (b ∷ bs) (prefix_len is_name_byte (b ∷ bs)) named
    else (if is_digit b then spelled_by (b ∷ bs) (prefix_len is_digit (b ∷ bs)) numbered
    else sign_or_byte (sign_at (b ∷ bs)))

abbrev pub spots_at : (List ℕ → List Spot) → ℕ → List ℕ → List Spot
spots_at go size [] = []
spots_at go size (b ∷ bs) = record { at = size - length (b ∷ bs); token = (lexed (b ∷ bs)).token } ∷ go (drop (lexed (b ∷ bs)).len (b ∷ bs))

-- at most n tokens of what is left of a text of this size
unfoldable pub spots : ℕ → ℕ → List ℕ → List Spot
spots zero size bs = []
spots (suc n) size bs = spots_at (spots n size) size (gap false bs)

-- the tokens of what is left of a text of this size
unfoldable pub tokens_from : ℕ → List ℕ → List Spot
tokens_from size bs = spots (length bs) size bs

-- the tokens of a text, each with the offset of its first byte
abbrev pub tokens : List ℕ → List Spot
tokens text = tokens_from (length text) text
