-- Expressions: their canonical pieces, with only the parentheses that the grammar needs.
use Rattle.std.specs.Prelude.{List, [], ◌∷◌, ◌++◌, if◌then◌else◌}
use Rattle.nest_lang.specs.declared.tree.Op.{Op}
use Rattle.nest_lang.specs.declared.tree.Expr.{Expr}
use Rattle.nest_lang.specs.declared.tree.Expr.TheFolds.{fold-Expr}
use Rattle.nest_lang.specs.declared.tree.Expr.TheOpen.{Expr-F}
use Rattle.nest_tokens.specs.declared.token.Mark.TheVariants as mark
use Rattle.canonical.specs.declared.group.Group.{Group}
use Rattle.canonical.specs.declared.group.Group.TheVariants.{Unary, Whole}
use Rattle.canonical.specs.Groups.{fits, made_by, left_of, right_of, mark_of}
use Rattle.canonical.specs.Pieces.{Piece, plain, name, signed, spaced}
use Rattle.canonical.specs.Labels.{Labels, label}

-- which group an expression is, and its pieces
pub record Printed : Type 0 where
  pub group : Group
  pub pieces : List Piece

-- where a group is wanted: in parentheses where it doesn't fit
unfoldable pub as_group : Group → Printed → List Piece
as_group wanted x = if fits x.group wanted then x.pieces else plain mark.Open ∷ x.pieces ++ plain mark.Close ∷ []

-- two expressions with an operator between them
abbrev pub both : Op → Printed → Printed → Printed
both o x y = record { group = made_by o; pieces = as_group (left_of o) x ++ spaced (mark_of o) ++ as_group (right_of o) y }

-- one level of an expression, from its parts
abbrev pub level : Labels → Expr-F Printed → Printed
level l (Expr-F.Number n) = record { group = Unary; pieces = signed n }
level l (Expr-F.Var place) = record { group = Unary; pieces = name (label l place) ∷ [] }
level l (Expr-F.Load access x) = record { group = Unary; pieces = plain mark.OpenBracket ∷ as_group Whole x ++ plain mark.CloseBracket ∷ [] }
level l (Expr-F.Neg x) = record { group = Unary; pieces = plain mark.Minus ∷ as_group Unary x }
level l (Expr-F.Two o x y) = both o x y

unfoldable pub printed : Labels → Expr → Printed
printed l = fold-Expr Printed (level l)

-- a whole expression
unfoldable pub expression_of : Labels → Expr → List Piece
expression_of l e = as_group Whole (printed l e)
