use Rattle.std.proofs.Common.{◌≡◌, ◌-ℤ◌, ◌∷◌, ◌++◌}
use Rattle.dependence.specs.Terms.{term_of}
use Rattle.dependence.specs.Comparisons.{on_turn, on_x, on_y, less}
use Rattle.dependence.proofs.comparison.row_for.Given as goal

abbrev pub invariant-loop-counter : goal.invariant-loop-counter
invariant-loop-counter g l =
    l.coef.items ≡ (on_turn (term_of l.right) -ℤ on_turn (term_of l.left)) ∷ less l.counter (on_x (term_of l.right)) (on_x (term_of l.left))

abbrev pub invariant-loop-counter-2 : goal.invariant-loop-counter-2
invariant-loop-counter-2 g l =
    l.coef.items ≡ (on_turn (term_of l.right) -ℤ on_turn (term_of l.left)) ∷ (less l.x (on_x (term_of l.right)) (on_x (term_of l.left)) ++ less l.counter (on_y (term_of l.right)) (on_y (term_of l.left)))
