use Rattle.std.proofs.Common.{rules, arith}
use Rattle.nest_lang.specs.declared.tree.Expr.{the_lemmas}
use Rattle.nest_lang.proofs.AccessLaws.{expression_levels}
use Rattle.nest_lang.proofs.accesses.+push_expression.Goals as goal

pub push_expression-requires : goal.push_expression-requires
push_expression-requires t c = (search (rules, the_lemmas), grind (arith, expression_levels))

pub push_expression-requires-in-Neg : goal.push_expression-requires-in-Neg
push_expression-requires-in-Neg t c = (search (rules, the_lemmas), grind (arith, expression_levels))

pub push_expression-requires-in-Two : goal.push_expression-requires-in-Two
push_expression-requires-in-Two t c = (search (rules, the_lemmas), grind (arith, expression_levels))

pub push_expression-requires-in-Two-2 : goal.push_expression-requires-in-Two-2
push_expression-requires-in-Two-2 t c = (search (rules, the_lemmas), grind (arith, expression_levels))
