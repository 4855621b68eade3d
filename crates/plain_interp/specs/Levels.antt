-- Levels: loops of a nest, with the loops around them and inside of them.
use Rattle.std.specs.Prelude.{◌≡◌, ℕ, ◌+◌, ◌<◌, ◌∷◌, length, true}
use Rattle.nest_lang.specs.declared.tree.Expr.{Expr}
use Rattle.nest_lang.specs.declared.tree.Head.{Head}
use Rattle.nest_lang.specs.declared.tree.Head.TheVariants.{For, While}
use Rattle.nest_lang.specs.Stores.{Store}
use Rattle.nest_lang.specs.Lookups.{Expectation}
use Rattle.nest_lang.specs.Traces.{Trace}
use Rattle.nest_lang.specs.Loops.{Around, turn_trace, loops_trace}
use Rattle.nest_lang.specs.Rules.{loop_keeps}
use Rattle.block_exec.specs.NestCodes.{AreLoopCodes}
use Rattle.plain_interp.specs.declared.loops.Level.{Level}

-- a level of a nest that keeps the rules: at most six loops, whose strides are not 0, and a statement in
-- the innermost body; and with code of its loops, as far as there is code
pub record IsLevel (at : Level) : Type 0 where
  pub deep : at.depth + length at.rest.now < 6
  pub keeps : loop_keeps at.first.now at.rest.now ≡ true
  pub codes : AreLoopCodes (at.first.now ∷ at.rest.now) at.codes.now

-- the trace of a level's loop, in a place, where each `while` has at most k turns
abbrev pub level_trace : Expectation → Level → Around → ℕ → Store → Trace
level_trace x at a k = loops_trace x k (at.depth + 1) (at.first.now ∷ at.rest.now) a

-- the trace of one turn of it, in the place of that turn
abbrev pub level_turn : Expectation → Level → Around → ℕ → Store → Trace
level_turn x at a k = turn_trace x (at.depth + 1) at.first.now (loops_trace x k (at.depth + 1 + 1) at.rest.now) a

-- the head of a `while`
abbrev pub IsWhile : Head → Type 0
IsWhile (For lower upper stride) = ⊥
IsWhile (While condition) = Unit {0}

-- what holds of the bounds of a `for`, and of the condition of a `while`
abbrev pub IfFor : Head → (Expr → Expr → Type 0) → Type 0
IfFor (For lower upper stride) holds = holds lower upper
IfFor (While condition) holds = Unit {0}

abbrev pub IfWhile : Head → (Expr → Type 0) → Type 0
IfWhile (For lower upper stride) holds = Unit {0}
IfWhile (While condition) holds = holds condition
