-- Statements: their canonical lines.
use Rattle.std.specs.Prelude.{ℕ, ◌+◌, List, [], ◌∷◌, ◌++◌, map}
use Rattle.std.specs.List.{flat_map}
use Rattle.nest_lang.specs.declared.tree.Place.TheVariants as place
use Rattle.nest_lang.specs.declared.tree.Expr.{Expr}
use Rattle.nest_lang.specs.declared.tree.Stmt.{Stmt}
use Rattle.nest_lang.specs.declared.tree.Stmt.TheFolds.{fold-Stmt}
use Rattle.nest_lang.specs.declared.tree.Stmt.TheOpen.{Stmt-F}
use Rattle.nest_tokens.specs.declared.token.Mark.TheVariants as mark
use Rattle.canonical.specs.Pieces.{Piece, Space, plain, name, spaced, line}
use Rattle.canonical.specs.Labels.{Labels, label}
use Rattle.canonical.specs.Expressions.{expression_of}

-- "let" name "=" expr
unfoldable pub let_line : Labels → ℕ → Expr → List Piece
let_line l k e = plain mark.Let ∷ Space ∷ name (label l (place.Local k)) ∷ spaced mark.Assign ++ expression_of l e

-- name "=" expr
unfoldable pub set_line : Labels → ℕ → Expr → List Piece
set_line l k e = name (label l (place.Scalar k)) ∷ spaced mark.Assign ++ expression_of l e

-- "[" expr "]" "=" expr
unfoldable pub store_line : Labels → Expr → Expr → List Piece
store_line l a e = plain mark.OpenBracket ∷ expression_of l a ++ plain mark.CloseBracket ∷ spaced mark.Assign ++ expression_of l e

-- "if" expr "{"
unfoldable pub if_line : Labels → Expr → List Piece
if_line l e = plain mark.If ∷ Space ∷ expression_of l e ++ Space ∷ plain mark.OpenBrace ∷ []

-- "}" "else" "{"
abbrev pub else_line : List Piece
else_line = plain mark.CloseBrace ∷ spaced mark.Else ++ plain mark.OpenBrace ∷ []

-- "}"
abbrev pub close_line : List Piece
close_line = plain mark.CloseBrace ∷ []

-- the lines of something, by how many braces are open
abbrev pub Lines : Type 0
Lines = ℕ → List Piece

abbrev pub each : List Lines → Lines
each xs depth = flat_map (λ x. x depth) xs

-- an else branch stands only where it has a statement
abbrev pub else_branch : List Lines → Lines
else_branch [] depth = []
else_branch (y ∷ ys) depth = line depth else_line ++ each (y ∷ ys) (depth + 1)

-- the lines of a statement, from those of the statements in it
abbrev pub statement_level : Labels → Stmt-F Lines → Lines
statement_level l (Stmt-F.Let k e) depth = line depth (let_line l k e)
statement_level l (Stmt-F.Set k e) depth = line depth (set_line l k e)
statement_level l (Stmt-F.Store access a e) depth = line depth (store_line l a e)
statement_level l (Stmt-F.If e xs ys) depth = line depth (if_line l e) ++ each xs (depth + 1) ++ else_branch ys depth ++ line depth close_line

unfoldable pub statement_of : Labels → Stmt → Lines
statement_of l = fold-Stmt Lines (statement_level l)

-- statements, one behind another
unfoldable pub statement_lines : Labels → List Stmt → Lines
statement_lines l sts = each (map (statement_of l) sts)

-- the second branch of an `if`, with the line between the branches
unfoldable pub otherwise : Labels → List Stmt → Lines
otherwise l sts = else_branch (map (statement_of l) sts)
