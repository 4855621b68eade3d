-- A small nest, for tests of its fit.
use Rattle.std.specs.Prelude.{pos, List, [], ◌∷◌}
use Rattle.nest_lang.specs.declared.tree.Expr.TheVariants.{Number, Var}
use Rattle.nest_lang.specs.declared.tree.Head.TheVariants.{For}
use Rattle.nest_lang.specs.declared.tree.Loop.{Loop}
use Rattle.nest_lang.specs.declared.tree.Place.TheVariants.{Counter}
use Rattle.nest_lang.specs.declared.tree.Stmt.{Stmt}
use Rattle.nest_lang.specs.declared.tree.Stmt.TheVariants.{Store}

-- [i] = 5
abbrev pub store_five : List Stmt
store_five = Store 1 (Var (Counter 0)) (Number (pos 5)) ∷ []

-- for i = 0 below 8 { [i] = 5 }
abbrev pub filling : List Loop
filling = record { head = For (Number (pos 0)) (Number (pos 8)) (pos 1); pre = store_five; post = [] } ∷ []
