-- Tokens: how each is spelled, and which one a text begins with.
use Rattle.std.specs.Prelude.{ℕ, List, [], ◌∷◌, Bool, false, Option, codes, nat_eq}
use Rattle.std.specs.List.{find, starts_with}
use Rattle.std.specs.Str.{bytes_eq}
use Rattle.nest_tokens.specs.declared.token.Mark.{Mark}
use Rattle.nest_tokens.specs.declared.token.Mark.TheVariants as mark
use Rattle.nest_tokens.specs.declared.token.Token.{Token}
use Rattle.nest_tokens.specs.declared.token.Token.TheVariants as token

-- how a sign or a keyword is spelled
unfoldable pub spelling : Mark → List ℕ
spelling mark.OpenBrace = codes "{"
spelling mark.CloseBrace = codes "}"
spelling mark.Open = codes "("
spelling mark.Close = codes ")"
spelling mark.OpenBracket = codes "["
spelling mark.CloseBracket = codes "]"
spelling mark.Assign = codes "="
spelling mark.Equal = codes "=="
spelling mark.NotEqual = codes "!="
spelling mark.Less = codes "<"
spelling mark.AtMost = codes "<="
spelling mark.Greater = codes ">"
spelling mark.AtLeast = codes ">="
spelling mark.Plus = codes "+"
spelling mark.Minus = codes "-"
spelling mark.Times = codes "*"
spelling mark.Divide = codes "/"
spelling mark.Remainder = codes "%"
spelling mark.Colon = codes ":"
spelling mark.Comma = codes ","
spelling mark.Semicolon = codes ";"
spelling mark.Nest = codes "nest"
spelling mark.Scalar = codes "scalar"
spelling mark.Memory = codes "memory"
spelling mark.Data = codes "data"
spelling mark.Ramp = codes "ramp"
spelling mark.Candidate = codes "candidate"
spelling mark.For = codes "for"
spelling mark.Below = codes "below"
spelling mark.Step = codes "step"
spelling mark.While = codes "while"
spelling mark.Let = codes "let"
spelling mark.If = codes "if"
spelling mark.Else = codes "else"

-- the keywords
abbrev pub keywords : List Mark
keywords = mark.Nest ∷ mark.Scalar ∷ mark.Memory ∷ mark.Data ∷ mark.Ramp ∷ mark.Candidate ∷ mark.For ∷ mark.Below ∷ mark.Step ∷ mark.While ∷ mark.Let ∷ mark.If ∷ mark.Else ∷ []

-- the signs, a longer one before those that it begins with
abbrev pub signs : List Mark
signs = mark.Equal ∷ mark.NotEqual ∷ mark.AtMost ∷ mark.AtLeast ∷ mark.OpenBrace ∷ mark.CloseBrace ∷ mark.Open ∷ mark.Close ∷ mark.OpenBracket ∷ mark.CloseBracket ∷ mark.Assign ∷ mark.Less ∷ mark.Greater ∷ mark.Plus ∷ mark.Minus ∷ mark.Times ∷ mark.Divide ∷ mark.Remainder ∷ mark.Colon ∷ mark.Comma ∷ mark.Semicolon ∷ []

-- the keyword that is spelled so
unfoldable pub keyword_of : List ℕ → Option Mark
keyword_of text = find (λ w. bytes_eq (spelling w) text) keywords

-- the first of the signs that a text begins with; no sign that it begins with is longer
unfoldable pub sign_at : List ℕ → Option Mark
sign_at text = find (λ m. starts_with nat_eq text (spelling m)) signs

-- whether a token is this sign or word
unfoldable pub is_mark : Mark → Token → Bool
is_mark m (token.Plain k) = bytes_eq (spelling m) (spelling k)
is_mark m _ = false
