-- Groups: how expressions group. The grammar's sums and terms group to the left.
use Rattle.std.specs.Prelude.{Bool, true, false}
use Rattle.nest_lang.specs.declared.tree.Op.{Op}
use Rattle.nest_lang.specs.declared.tree.Op.TheVariants as op
use Rattle.nest_tokens.specs.declared.token.Mark.{Mark}
use Rattle.nest_tokens.specs.declared.token.Mark.TheVariants as mark
use Rattle.canonical.specs.declared.group.Group.{Group}
use Rattle.canonical.specs.declared.group.Group.TheVariants.{Unary, Term, Sum, Whole}

-- whether an expression of a group may stand where one of another is wanted
unfoldable pub fits : Group → Group → Bool
fits Unary wanted = true
fits Term Unary = false
fits Term Term = true
fits Term Sum = true
fits Term Whole = true
fits Sum Unary = false
fits Sum Term = false
fits Sum Sum = true
fits Sum Whole = true
fits Whole Unary = false
fits Whole Term = false
fits Whole Sum = false
fits Whole Whole = true

-- The table of operators: which group each makes, which groups it wants on its left and on its right,
-- and its sign.
abbrev pub made_by : Op → Group
made_by op.Add = Sum
made_by op.Sub = Sum
made_by op.Mul = Term
made_by op.Div = Term
made_by op.Rem = Term
made_by op.Eq = Whole
made_by op.Ne = Whole
made_by op.Lt = Whole
made_by op.Le = Whole
made_by op.Gt = Whole
made_by op.Ge = Whole

abbrev pub left_of : Op → Group
left_of op.Add = Sum
left_of op.Sub = Sum
left_of op.Mul = Term
left_of op.Div = Term
left_of op.Rem = Term
left_of op.Eq = Sum
left_of op.Ne = Sum
left_of op.Lt = Sum
left_of op.Le = Sum
left_of op.Gt = Sum
left_of op.Ge = Sum

abbrev pub right_of : Op → Group
right_of op.Add = Term
right_of op.Sub = Term
right_of op.Mul = Unary
right_of op.Div = Unary
right_of op.Rem = Unary
right_of op.Eq = Sum
right_of op.Ne = Sum
right_of op.Lt = Sum
right_of op.Le = Sum
right_of op.Gt = Sum
right_of op.Ge = Sum

abbrev pub mark_of : Op → Mark
mark_of op.Add = mark.Plus
mark_of op.Sub = mark.Minus
mark_of op.Mul = mark.Times
mark_of op.Div = mark.Divide
mark_of op.Rem = mark.Remainder
mark_of op.Eq = mark.Equal
mark_of op.Ne = mark.NotEqual
mark_of op.Lt = mark.Less
mark_of op.Le = mark.AtMost
mark_of op.Gt = mark.Greater
mark_of op.Ge = mark.AtLeast
