-- Expressions: each production as a reading.
use Rattle.std.specs.Prelude.{ℕ, zero, suc, ◌+◌, pos, Option, Some, None, Ok, if◌then◌else◌, nat_lt}
use Rattle.nest_lang.specs.declared.tree.Place.{Place}
use Rattle.nest_lang.specs.declared.tree.Op.{Op}
use Rattle.nest_lang.specs.declared.tree.Op.TheVariants as op
use Rattle.nest_lang.specs.declared.tree.Expr.{Expr}
use Rattle.nest_lang.specs.declared.tree.Expr.TheVariants.{Number, Var, Load, Neg, Two}
use Rattle.nest_tokens.specs.declared.token.Mark.{Mark}
use Rattle.nest_tokens.specs.declared.token.Mark.TheVariants as mark
use Rattle.nest_tokens.specs.declared.token.Token.{Token}
use Rattle.nest_tokens.specs.declared.token.Token.TheVariants as token
use Rattle.nest_tokens.specs.Tokens.{is_mark}
use Rattle.nest_grammar.specs.declared.opening.Start.{Start}
use Rattle.nest_grammar.specs.declared.opening.Start.TheVariants as start
use Rattle.nest_grammar.specs.declared.fault.TextKind.TheVariants as kind
use Rattle.nest_grammar.specs.Limits.{most_tokens, most_open, most_accesses}
use Rattle.nest_grammar.specs.Sights.{stands, spend, afresh, opens, numbered}
use Rattle.nest_grammar.specs.Readings.{Reading, ◌>>=◌, gives, refused, wrong, many}
use Rattle.nest_grammar.specs.Names.{Names, place_of}

-- how an operand begins
unfoldable pub start_of : Token → Start
start_of (token.Number n) = start.Number n
start_of (token.Name n) = start.Name n
start_of (token.Plain mark.Minus) = start.Minus
start_of (token.Plain mark.Open) = start.Open
start_of (token.Plain mark.OpenBracket) = start.Bracket
start_of _ = start.Other

-- the operators of a term, of a sum, and of a comparison
unfoldable pub product_of : Token → Option Op
product_of (token.Plain mark.Times) = Some op.Mul
product_of (token.Plain mark.Divide) = Some op.Div
product_of (token.Plain mark.Remainder) = Some op.Rem
product_of _ = None

unfoldable pub addition_of : Token → Option Op
addition_of (token.Plain mark.Plus) = Some op.Add
addition_of (token.Plain mark.Minus) = Some op.Sub
addition_of _ = None

unfoldable pub comparison_of : Token → Option Op
comparison_of (token.Plain mark.Equal) = Some op.Eq
comparison_of (token.Plain mark.NotEqual) = Some op.Ne
comparison_of (token.Plain mark.Less) = Some op.Lt
comparison_of (token.Plain mark.AtMost) = Some op.Le
comparison_of (token.Plain mark.Greater) = Some op.Gt
comparison_of (token.Plain mark.AtLeast) = Some op.Ge
comparison_of _ = None

-- one more token of the expression
unfoldable pub taken : Reading (Unit {0})
taken s = if nat_lt s.spent most_tokens then Ok (tt, spend s) else refused kind.Deep s

-- this sign, as a token of the expression
unfoldable pub closed : Mark → Reading (Unit {0})
closed m s = if is_mark m (stands s) then taken s else wrong s

-- one more access of the block is begun
unfoldable pub access : Reading (Unit {0})
access s = if nat_lt s.opened (most_accesses s.version) then Ok (tt, opens s) else refused kind.Many s

-- the number of an access, from 1
abbrev pub access_number : Reading ℕ
access_number s = Ok (s.accesses + 1, numbered s)

abbrev pub if_visible : Option Place → Reading Expr
if_visible (Some p) = taken >>= λ _. gives (Var p)
if_visible None = refused kind.Unknown

-- "-" unary | number | name | "[" expr "]" | "(" expr ")", with what stands one deeper
abbrev pub operand : Names → Reading Expr → Reading Expr → Start → Reading Expr
operand names unary expr (start.Number n) = taken >>= λ _. gives (Number (pos n))
operand names unary expr (start.Name n) = if_visible (place_of names n)
operand names unary expr start.Minus = unary >>= λ e. gives (Neg e)
operand names unary expr start.Open = expr >>= λ e. closed mark.Close >>= λ _. gives e
operand names unary expr start.Bracket = access >>= λ _. expr >>= λ e. closed mark.CloseBracket >>= λ _. access_number >>= λ k. gives (Load k e)
operand names unary expr start.Other = wrong

-- an operator and a part behind what was read
abbrev pub operated : Reading Expr → Op → Expr → Reading Expr
operated part o a = taken >>= λ _. part >>= λ b. gives (Two o a b)

-- part { operator part }, grouped to the left
abbrev pub parts : (Token → Option Op) → Reading Expr → Reading Expr
parts operator part = part >>= many operator (operated part)

abbrev pub compared_at : Reading Expr → Expr → Option Op → Reading Expr
compared_at part a None = gives a
compared_at part a (Some o) = operated part o a

-- sum [ comparison sum ]
abbrev pub compared : Reading Expr → Reading Expr
compared part = part >>= λ a s. compared_at part a (comparison_of (stands s)) s

-- what stands one deeper, behind this token
unfoldable pub entered : ℕ → Reading ℕ
entered zero = refused kind.Deep
entered (suc d) = taken >>= λ _. gives d

-- an operand, where d more may be open at once
unfoldable pub unary : Names → ℕ → Reading Expr
unary names zero s = operand names (refused kind.Deep) (refused kind.Deep) (start_of (stands s)) s
unary names (suc d) s = operand names (taken >>= λ _. unary names d) (taken >>= λ _. compared (parts addition_of (parts product_of (unary names d)))) (start_of (stands s)) s

-- unary { ("*" | "/" | "%") unary }
unfoldable pub term : Names → ℕ → Reading Expr
term names d = parts product_of (unary names d)

-- term { ("+" | "-") term }
unfoldable pub sum : Names → ℕ → Reading Expr
sum names d = parts addition_of (term names d)

-- sum [ ("==" | "!=" | "<" | "<=" | ">" | ">=") sum ]
unfoldable pub expr : Names → ℕ → Reading Expr
expr names d = compared (sum names d)

-- a whole expression
unfoldable pub expression : Names → Reading Expr
expression names s = expr names most_open (afresh s)
