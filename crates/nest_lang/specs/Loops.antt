-- Loops: the trace of loops inside one another, in original order.
use Rattle.std.specs.Prelude.{ℕ, zero, suc, ◌+◌, ℤ, pos, List, [], ◌∷◌, ◌++◌, true, false}
use Rattle.nest_lang.specs.declared.tree.Head.{Head}
use Rattle.nest_lang.specs.declared.tree.Head.TheVariants.{For, While}
use Rattle.nest_lang.specs.declared.tree.Loop.{Loop}
use Rattle.nest_lang.specs.declared.tree.Part.{Part}
use Rattle.nest_lang.specs.declared.tree.Part.TheVariants as part
use Rattle.nest_lang.specs.Values.{turn_value}
use Rattle.nest_lang.specs.Stores.{Store}
use Rattle.nest_lang.specs.Lookups.{Expectation}
use Rattle.nest_lang.specs.Traces.{Trace, ends, and_then, in_turn, traced}
use Rattle.nest_lang.specs.Expressions.{Frame}
use Rattle.nest_lang.specs.Statements.{instance_trace}
use Rattle.nest_lang.specs.Heads.{Yield, Bounds, Tested, headed}

-- where a loop runs: the turn numbers of the loops around it, and the values of their names. The
-- value of a `while`, which has no name, is its turn number.
pub record Around : Type 0 where
  pub counters : List ℤ
  pub values : List ℤ

-- one loop further in, in a turn of it
abbrev pub inward : Around → ℕ → ℤ → Around
inward a turn value = record { counters = a.counters ++ pos turn ∷ []; values = a.values ++ value ∷ [] }

abbrev pub frame_of : Expectation → Part → ℕ → Around → Frame
frame_of x part level a = record { at = record { block = record { part = part; level = level }; counters = a.counters }; values = a.values; expects = x }

-- a turn: the block before the inner loops, the inner loops, and the block after them
unfoldable pub turn_trace : Expectation → ℕ → Loop → (Around → Store → Trace) → Around → Store → Trace
turn_trace x level l inner a =
    in_turn (instance_trace (frame_of x part.Pre level a) l.pre ∷ inner a ∷ instance_trace (frame_of x part.Post level a) l.post ∷ [])

-- n turns from turn t on
abbrev pub turns_from : ℕ → ℕ → (ℕ → Store → Trace) → Store → Trace
turns_from zero t turn s = ends
turns_from (suc n) t turn s = and_then s (turn t s) (turns_from n (t + 1) turn)

abbrev pub turns_of : (ℤ → ℕ → Store → Trace) → Yield → List (Store → Trace)
turns_of turn (Bounds lower trip) = turns_from trip 0 (turn lower) ∷ []
turns_of turn (Tested holds) = []

abbrev pub turn_if : (Store → Trace) → (Store → Trace) → Yield → List (Store → Trace)
turn_if turn more (Bounds lower trip) = []
turn_if turn more (Tested true) = turn ∷ more ∷ []
turn_if turn more (Tested false) = []

-- a `while`, of at most n turns from turn t on: its condition is an instance before each turn
abbrev pub whiles_from : ℕ → ℕ → (ℕ → Frame) → Head → (ℕ → Store → Trace) → Store → Trace
whiles_from zero t frame head turn s = ends
whiles_from (suc n) t frame head turn s = traced (headed (frame t) head (turn_if (turn t) (whiles_from n (t + 1) frame head turn)) s) s

-- one loop, from the trace of a turn of it; a `while` has at most k turns
abbrev pub loop_by : Head → Expectation → ℕ → ℕ → Head → (Around → Store → Trace) → Around → Store → Trace
loop_by (For lower upper stride) x k level head turn a s =
    traced (headed (frame_of x part.Head level a) head (turns_of (λ from t. turn (inward a t (turn_value from stride t)))) s) s
loop_by (While condition) x k level head turn a s =
    whiles_from k 0 (λ t. frame_of x part.Head level (inward a t (pos t))) head (λ t. turn (inward a t (pos t))) s

-- loops inside one another, the outermost at a level, where each `while` has at most k turns
abbrev pub loops_trace : Expectation → ℕ → ℕ → List Loop → Around → Store → Trace
loops_trace x k level [] a s = ends
loops_trace x k level (l ∷ ls) a s = loop_by l.head x k level l.head (turn_trace x level l (loops_trace x k (level + 1) ls)) a s

abbrev pub outside : Around
outside = record { counters = []; values = [] }
