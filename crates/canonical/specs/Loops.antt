-- Loops: their canonical lines.
use Rattle.std.specs.Prelude.{ℕ, ◌+◌, ℤ, pos, List, [], ◌∷◌, ◌++◌, if◌then◌else◌}
use Rattle.nest_lang.specs.declared.tree.Place.TheVariants as place
use Rattle.nest_lang.specs.declared.tree.Expr.{Expr}
use Rattle.nest_lang.specs.declared.tree.Head.{Head}
use Rattle.nest_lang.specs.declared.tree.Head.TheVariants.{For, While}
use Rattle.nest_lang.specs.declared.tree.Loop.{Loop}
use Rattle.nest_lang.specs.Values.{same}
use Rattle.nest_tokens.specs.declared.token.Mark.TheVariants as mark
use Rattle.canonical.specs.Pieces.{Piece, Space, plain, name, spaced, signed, line}
use Rattle.canonical.specs.Labels.{Labels, label, in_head, in_pre, in_post}
use Rattle.canonical.specs.Expressions.{expression_of}
use Rattle.canonical.specs.Statements.{statement_lines, close_line}

-- a step stands only where it is not 1
unfoldable pub step_of : ℤ → List Piece
step_of k = if same k (pos 1) then [] else spaced mark.Step ++ signed k

-- behind the name of a `for`: "=" expr "below" expr [ "step" signed ]
unfoldable pub bounds_of : Labels → Expr → Expr → ℤ → List Piece
bounds_of l lower upper k = spaced mark.Assign ++ expression_of l lower ++ spaced mark.Below ++ expression_of l upper ++ step_of k

-- the head of a loop at a level, from 0
unfoldable pub heading_of : Labels → ℕ → Head → List Piece
heading_of l level (For lower upper k) = plain mark.For ∷ Space ∷ name (label l (place.Counter level)) ∷ bounds_of l lower upper k
heading_of l level (While e) = plain mark.While ∷ Space ∷ expression_of l e

-- the line that opens a loop at a level; as many braces are open there
unfoldable pub opening_line : Labels → ℕ → Head → List Piece
opening_line l level h = line level (heading_of (in_head l) level h ++ Space ∷ plain mark.OpenBrace ∷ [])

-- loops from a level on, each in the one before it
unfoldable pub loop_lines : Labels → ℕ → List Loop → List Piece
loop_lines l level [] = []
loop_lines l level (x ∷ xs) =
    opening_line l level x.head ++ statement_lines (in_pre l level) x.pre (level + 1) ++ loop_lines l (level + 1) xs ++
    statement_lines (in_post l level) x.post (level + 1) ++ line level close_line
