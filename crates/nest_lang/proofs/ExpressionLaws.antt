-- What each expression tells, one level at a time.
use Rattle.std.proofs.Common.{◌≡◌, ℕ, ℤ, List, [], Result, Ok, rules}
use Rattle.nest_lang.specs.declared.tree.Expr.{Expr, the_lemmas}
use Rattle.nest_lang.specs.declared.tree.Expr.TheOpen.{Expr-F}
use Rattle.nest_lang.specs.declared.tree.Expr.TheVariants.{Number, Var, Load, Neg, Two}
use Rattle.nest_lang.specs.declared.tree.Op.{Op}
use Rattle.nest_lang.specs.declared.tree.Place.{Place}
use Rattle.nest_lang.specs.declared.observe.Stop.{Stop}
use Rattle.nest_lang.specs.Expressions.{Frame, told_by, expression_level, telling, place_value}

module _ (f : Frame) (scalars locals : List ℤ) (find : ℕ → ℤ → Result ℤ Stop) where
  pub told_by-number : (n : ℤ) → told_by f scalars locals find (Number n) ≡ telling [] (Ok n)
  unfolding told_by
  told_by-number n = search (rules, the_lemmas)

  pub told_by-var : (p : Place) → told_by f scalars locals find (Var p) ≡ telling [] (Ok (place_value f.values scalars locals p))
  unfolding told_by
  told_by-var p = search (rules, the_lemmas)

  pub told_by-load : (access : ℕ) (a : Expr) → told_by f scalars locals find (Load access a) ≡ expression_level f scalars locals find (Expr-F.Load access (told_by f scalars locals find a))
  unfolding told_by
  told_by-load access a = search (rules, the_lemmas)

  pub told_by-neg : (a : Expr) → told_by f scalars locals find (Neg a) ≡ expression_level f scalars locals find (Expr-F.Neg (told_by f scalars locals find a))
  unfolding told_by
  told_by-neg a = search (rules, the_lemmas)

  pub told_by-two : (op : Op) (a b : Expr) → told_by f scalars locals find (Two op a b) ≡ expression_level f scalars locals find (Expr-F.Two op (told_by f scalars locals find a) (told_by f scalars locals find b))
  unfolding told_by
  told_by-two op a b = search (rules, the_lemmas)

pub ruleset tells = (told_by-number, told_by-var, told_by-load, told_by-neg, told_by-two)
