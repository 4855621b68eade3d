use Rattle.std.proofs.Common.{◌≡◌, ◌+◌, ◌*◌, length}
use Rattle.nest_grammar.specs.Readings.{many}
use Rattle.nest_grammar.specs.Expressions.{product_of, addition_of, operated, unary, term, sum}
use Rattle.nest_text.proofs.reader.Reader.+expression.Given as goal

abbrev pub decreases-load : goal.decreases-load
decreases-load l = 5 * l.depth

abbrev pub decreases-unary : goal.decreases-unary
decreases-unary l = 5 * l.depth + 1

abbrev pub decreases-term : goal.decreases-term
decreases-term l = 5 * l.depth + 2

abbrev pub decreases-sum : goal.decreases-sum
decreases-sum l = 5 * l.depth + 3

abbrev pub decreases-expr : goal.decreases-expr
decreases-expr l = 5 * l.depth + 4

abbrev pub invariant-term-parts : goal.invariant-term-parts
invariant-term-parts l = many product_of (operated (unary l.names l.depth)) l.left l.self ≡ term l.fn.names l.fn.depth l.fn.self

abbrev pub decreases-term-parts : goal.decreases-term-parts
decreases-term-parts l = length l.self.left

abbrev pub invariant-sum-parts : goal.invariant-sum-parts
invariant-sum-parts l = many addition_of (operated (term l.names l.depth)) l.left l.self ≡ sum l.fn.names l.fn.depth l.fn.self

abbrev pub decreases-sum-parts : goal.decreases-sum-parts
decreases-sum-parts l = length l.self.left
