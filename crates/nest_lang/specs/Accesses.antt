-- Accesses: the loads and the stores of a block, in the order of evaluation.
use Rattle.std.specs.Prelude.{ℕ, List, [], ◌∷◌, ◌++◌, Option, Some, None}
use Rattle.std.specs.List.{flat_map}
use Rattle.nest_lang.specs.declared.tree.Access.{Access}
use Rattle.nest_lang.specs.declared.tree.AccessKind.TheVariants as kind
use Rattle.nest_lang.specs.declared.tree.Expr.{Expr}
use Rattle.nest_lang.specs.declared.tree.Expr.TheFolds.{fold-Expr}
use Rattle.nest_lang.specs.declared.tree.Expr.TheOpen.{Expr-F}
use Rattle.nest_lang.specs.declared.tree.Stmt.{Stmt}
use Rattle.nest_lang.specs.declared.tree.Stmt.TheFolds.{fold-Stmt}
use Rattle.nest_lang.specs.declared.tree.Stmt.TheOpen.{Stmt-F}
use Rattle.nest_lang.specs.declared.tree.Head.{Head}
use Rattle.nest_lang.specs.declared.tree.Head.TheVariants.{For, While}
use Rattle.nest_lang.specs.declared.tree.Part.{Part}
use Rattle.nest_lang.specs.declared.tree.Part.TheVariants as part
use Rattle.nest_lang.specs.declared.tree.BlockRef.{BlockRef}
use Rattle.nest_lang.specs.declared.tree.Loop.{Loop}
use Rattle.nest_lang.specs.Blocks.{loop_at}

abbrev pub load : ℕ → Access
load number = record { number = number; kind = kind.Load }

abbrev pub store : ℕ → Access
store number = record { number = number; kind = kind.Store }

-- the accesses of an expression, from those of its parts: the left operand first, and a load after its
-- address
abbrev pub expression_level : Expr-F (List Access) → List Access
expression_level (Expr-F.Number n) = []
expression_level (Expr-F.Var place) = []
expression_level (Expr-F.Load number a) = a ++ load number ∷ []
expression_level (Expr-F.Neg a) = a
expression_level (Expr-F.Two op a b) = a ++ b

unfoldable pub expression_accesses : Expr → List Access
expression_accesses = fold-Expr (List Access) expression_level

-- lists of accesses, one after another
abbrev pub all_in : List (List Access) → List Access
all_in = flat_map (λ accesses. accesses)

-- the accesses of a statement, from those of the statements in it: a store after its address and its
-- value, and the branches of an `if` in the order of the text
abbrev pub statement_level : Stmt-F (List Access) → List Access
statement_level (Stmt-F.Let number e) = expression_accesses e
statement_level (Stmt-F.Set number e) = expression_accesses e
statement_level (Stmt-F.Store number a e) = expression_accesses a ++ expression_accesses e ++ store number ∷ []
statement_level (Stmt-F.If e first second) = expression_accesses e ++ all_in first ++ all_in second

unfoldable pub statement_accesses : Stmt → List Access
statement_accesses = fold-Stmt (List Access) statement_level

-- the accesses of statements, one after another
unfoldable pub block_accesses : List Stmt → List Access
block_accesses block = flat_map statement_accesses block

-- the accesses of a head: those of the lower bound before those of the upper bound
abbrev pub head_accesses : Head → List Access
head_accesses (For lower upper stride) = expression_accesses lower ++ expression_accesses upper
head_accesses (While condition) = expression_accesses condition

abbrev pub part_accesses : Part → Loop → List Access
part_accesses part.Head l = head_accesses l.head
part_accesses part.Pre l = block_accesses l.pre
part_accesses part.Post l = block_accesses l.post

abbrev pub accesses_by : Part → Option Loop → List Access
accesses_by p None = []
accesses_by p (Some l) = part_accesses p l

-- the accesses of a block of a nest
abbrev pub accesses_of : List Loop → BlockRef → List Access
accesses_of loops block = accesses_by block.part (loop_at loops block.level)
