-- Parts: readings that the reader does in functions of their own.
use Rattle.std.specs.Prelude.{ℕ, ℤ, pos, zero, suc, [], Bool, true, false, ◌==◌, Option, Some, None}
use Rattle.nest_lang.specs.declared.tree.Expr.{Expr}
use Rattle.nest_lang.specs.declared.tree.Stmt.{Stmt}
use Rattle.nest_tokens.specs.declared.token.Mark.TheVariants as mark
use Rattle.nest_grammar.specs.declared.opening.Opening.{Opening}
use Rattle.nest_grammar.specs.declared.fault.TextKind.TheVariants as kind
use Rattle.nest_grammar.specs.declared.version.Version.{Version}
use Rattle.nest_grammar.specs.declared.version.Version.TheVariants.{One, Two}
use Rattle.nest_grammar.specs.Readings.{Reading, ◌>>=◌, gives, refused, skipped, at_mark, many, always}
use Rattle.nest_grammar.specs.Scripts.{Script, ruled, is_size, command, next_command}
use Rattle.nest_grammar.specs.Names.{Names}
use Rattle.nest_grammar.specs.declared.opening.Start.TheVariants as start
use Rattle.nest_grammar.specs.Expressions.{entered, expr, operand}
use Rattle.nest_grammar.specs.Statements.{statement, branches, statements}

-- "[" expr "]", where d more may be open
abbrev pub load : Names → ℕ → Reading Expr
load names d = operand names (refused kind.Deep) (entered d >>= expr names) start.Bracket

-- a statement that is no choice
abbrev pub simple : Names → Opening → Reading (Stmt × Names)
simple names o = statement (refused kind.Deep) names o

-- what stands one deeper, behind this token
unfoldable pub within : ℕ → Reading ℕ
within zero = refused kind.Deep
within (suc d) = skipped >>= λ _. gives d

-- a choice, where d may stand within one another
unfoldable pub choice : ℕ → Names → Reading Stmt
choice zero names = refused kind.Deep
choice (suc d) names = skipped >>= λ _. branches names (statements d names)

-- command { ";" command }
abbrev pub commands : ℕ → Reading Script
commands depth = command depth [] >>= many (at_mark mark.Semicolon) (always (next_command depth))

-- the size of a tile
abbrev pub tile_size : Reading ℤ
tile_size = ruled is_size >>= λ n. gives (pos n)

abbrev pub version_if : Bool → Bool → Option Version
version_if true two = Some One
version_if false true = Some Two
version_if false false = None

-- the version of this number
unfoldable pub version_of : ℕ → Option Version
version_of n = version_if (n == 1) (n == 2)
