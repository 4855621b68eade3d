-- Places: the scalars, names of loops and locals that a block mentions, and how many statements it has.
use Rattle.std.specs.Prelude.{ℕ, ◌+◌, List, [], ◌∷◌, ◌++◌}
use Rattle.std.specs.List.{flat_map, sum, sum_by}
use Rattle.nest_lang.specs.declared.tree.Expr.{Expr}
use Rattle.nest_lang.specs.declared.tree.Expr.TheFolds.{fold-Expr}
use Rattle.nest_lang.specs.declared.tree.Expr.TheOpen.{Expr-F}
use Rattle.nest_lang.specs.declared.tree.Place.{Place}
use Rattle.nest_lang.specs.declared.tree.Place.TheVariants.{Scalar, Local}
use Rattle.nest_lang.specs.declared.tree.Stmt.{Stmt}
use Rattle.nest_lang.specs.declared.tree.Stmt.TheFolds.{fold-Stmt}
use Rattle.nest_lang.specs.declared.tree.Stmt.TheOpen.{Stmt-F}
use Rattle.nest_lang.specs.declared.tree.Head.{Head}
use Rattle.nest_lang.specs.declared.tree.Head.TheVariants.{For, While}

-- the places that an expression mentions, from those of its parts
abbrev pub expression_level : Expr-F (List Place) → List Place
expression_level (Expr-F.Number n) = []
expression_level (Expr-F.Var place) = place ∷ []
expression_level (Expr-F.Load number a) = a
expression_level (Expr-F.Neg a) = a
expression_level (Expr-F.Two op a b) = a ++ b

unfoldable pub expression_places : Expr → List Place
expression_places = fold-Expr (List Place) expression_level

-- lists of places, one after another
abbrev pub all_in : List (List Place) → List Place
all_in = flat_map (λ places. places)

-- the places that a statement mentions, from those of the statements in it
abbrev pub statement_level : Stmt-F (List Place) → List Place
statement_level (Stmt-F.Let number e) = Local number ∷ expression_places e
statement_level (Stmt-F.Set number e) = Scalar number ∷ expression_places e
statement_level (Stmt-F.Store number a e) = expression_places a ++ expression_places e
statement_level (Stmt-F.If e first second) = expression_places e ++ all_in first ++ all_in second

unfoldable pub statement_places : Stmt → List Place
statement_places = fold-Stmt (List Place) statement_level

unfoldable pub block_places : List Stmt → List Place
block_places block = flat_map statement_places block

abbrev pub head_places : Head → List Place
head_places (For lower upper stride) = expression_places lower ++ expression_places upper
head_places (While condition) = expression_places condition

-- the number of statements in a statement, itself and those nested in it
abbrev pub size_level : Stmt-F ℕ → ℕ
size_level (Stmt-F.Let number e) = 1
size_level (Stmt-F.Set number e) = 1
size_level (Stmt-F.Store number a e) = 1
size_level (Stmt-F.If e first second) = 1 + sum first + sum second

unfoldable pub statement_size : Stmt → ℕ
statement_size = fold-Stmt ℕ size_level

-- the number of statements of a block, nested ones counted
unfoldable pub block_size : List Stmt → ℕ
block_size block = sum_by statement_size block
