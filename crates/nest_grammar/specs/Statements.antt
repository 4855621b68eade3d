-- Statements: each production as a reading.
use Rattle.std.specs.Prelude.{ℕ, zero, suc, List, [], ◌∷◌, ◌++◌, length, Option, Some, None, Ok, Bool, true, false}
use Rattle.nest_lang.specs.declared.tree.Place.TheVariants as place
use Rattle.nest_lang.specs.declared.tree.Stmt.{Stmt}
use Rattle.nest_lang.specs.declared.tree.Stmt.TheVariants.{Let, Set, Store, If}
use Rattle.nest_tokens.specs.declared.token.Name.{Name}
use Rattle.nest_tokens.specs.declared.token.Mark.TheVariants as mark
use Rattle.nest_tokens.specs.declared.token.Token.{Token}
use Rattle.nest_tokens.specs.declared.token.Token.TheVariants as token
use Rattle.nest_tokens.specs.Tokens.{is_mark}
use Rattle.nest_grammar.specs.declared.opening.Opening.{Opening}
use Rattle.nest_grammar.specs.declared.opening.Opening.TheVariants as opening
use Rattle.nest_grammar.specs.declared.fault.TextKind.TheVariants as kind
use Rattle.nest_grammar.specs.Limits.{most_lets, most_ifs}
use Rattle.nest_grammar.specs.Sights.{stands, bound, in_block}
use Rattle.nest_grammar.specs.Readings.{Reading, ◌>>=◌, gives, refused, skipped, need, fewer, many}
use Rattle.nest_grammar.specs.Names.{Names, declared, fresh, target}
use Rattle.nest_grammar.specs.Expressions.{expression, access, access_number}

-- how a statement begins; None where none begins
unfoldable pub opening_of : Token → Option Opening
opening_of (token.Name n) = Some (opening.Name n)
opening_of (token.Plain mark.Let) = Some opening.Let
opening_of (token.Plain mark.OpenBracket) = Some opening.Store
opening_of (token.Plain mark.If) = Some opening.If
opening_of _ = None

-- one more local of the block is not past the limit
abbrev pub local_room : Reading (Unit {0})
local_room s = fewer (length s.lets) most_lets s

-- the number of a new local, from 0
abbrev pub local_number : Name → Reading ℕ
local_number n s = Ok (length s.lets, bound n s)

-- "{" { stmt } "}"
abbrev pub braced : Reading (List Stmt) → Reading (List Stmt)
braced list = need mark.OpenBrace >>= λ _. list >>= λ xs. need mark.CloseBrace >>= λ _. gives xs

abbrev pub else_at : Reading (List Stmt) → Bool → Reading (List Stmt)
else_at list true = skipped >>= λ _. braced list
else_at list false = gives []

-- [ "else" "{" { stmt } "}" ]
abbrev pub else_of : Reading (List Stmt) → Reading (List Stmt)
else_of list s = else_at list (is_mark mark.Else (stands s)) s

-- expr "{" { stmt } "}" [ "else" "{" { stmt } "}" ], behind the "if"
abbrev pub branches : Names → Reading (List Stmt) → Reading Stmt
branches names list = expression names >>= λ e. braced list >>= λ xs. else_of list >>= λ ys. gives (If e xs ys)

-- "let" name "=" expr | name "=" expr | "[" expr "]" "=" expr | "if" branches, and the names that are
-- visible behind it
abbrev pub statement : Reading Stmt → Names → Opening → Reading (Stmt × Names)
statement branch names opening.Let = local_room >>= λ _. skipped >>= λ _. fresh names >>= λ n. local_number n >>= λ k. need mark.Assign >>= λ _. expression names >>= λ e. gives (Let k e, names ++ declared n (place.Local k) ∷ [])
statement branch names (opening.Name n) = target names n >>= λ k. need mark.Assign >>= λ _. expression names >>= λ e. gives (Set k e, names)
statement branch names opening.Store = access >>= λ _. skipped >>= λ _. expression names >>= λ a. need mark.CloseBracket >>= λ _. need mark.Assign >>= λ _. expression names >>= λ e. access_number >>= λ k. gives (Store k a e, names)
statement branch names opening.If = branch >>= λ st. gives (st, names)

-- a statement behind others
abbrev pub another : (Names → Reading Stmt) → Opening → List Stmt × Names → Reading (List Stmt × Names)
another branch o x = statement (branch x.1) x.1 o >>= λ y. gives (x.0 ++ y.0 ∷ [], y.1)

-- { stmt }; a local is visible up to the end of the list
abbrev pub listed : (Names → Reading Stmt) → Names → Reading (List Stmt)
listed branch names = many opening_of (another branch) ([], names) >>= λ x. gives x.0

-- { stmt }, where d more conditions may stand within one another
unfoldable pub statements : ℕ → Names → Reading (List Stmt)
statements zero names = listed (λ ns. refused kind.Deep) names
statements (suc d) names = listed (λ ns. skipped >>= λ _. branches ns (statements d ns)) names

-- the names of the block's locals
abbrev pub with_lets : List Stmt → Reading (List Stmt × List Name)
with_lets xs s = Ok ((xs, s.lets), s)

abbrev pub block_begins : Reading (Unit {0})
block_begins s = Ok (tt, in_block s)

-- the statements of a block, with the names of its locals
unfoldable pub block : Names → Reading (List Stmt × List Name)
block names = block_begins >>= λ _. statements most_ifs names >>= with_lets
