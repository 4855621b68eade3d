-- What holds of the turns of an outermost loop.
use Rattle.std.specs.Prelude.{◌≡◌, ℕ, ◌<◌, ◌≤◌, ◌+◌, ℤ, pos, List, [], ◌∷◌, ◌++◌, true}
use Rattle.nest_lang.specs.declared.tree.Expr.{Expr}
use Rattle.nest_lang.specs.declared.tree.Head.TheVariants.{For, While}
use Rattle.nest_lang.specs.declared.tree.Loop.{Loop}
use Rattle.nest_lang.specs.declared.tree.Part.TheVariants as part
use Rattle.nest_lang.specs.declared.state.Outer.{Outer}
use Rattle.nest_lang.specs.Stores.{Store}
use Rattle.nest_lang.specs.Lookups.{Expectation, plain}
use Rattle.nest_lang.specs.Traces.{Observation, Over, Stopped, and_then, traced, Finish, Done, Halted, Cut, cut, seen_in}
use Rattle.nest_lang.specs.Heads.{Yield, Bounds, Tested, headed}
use Rattle.nest_lang.specs.Loops.{outside, frame_of, loops_trace}
use Rattle.nest_lang.specs.Turns.{turns_trace, turns_later, first_position}

-- c turns, and then d turns from the position c turns later, are c + d turns
abbrev pub TurnsJoin : Type 0
TurnsJoin = (x : Expectation) (k : ℕ) (loops : List Loop) (o : Outer) (t c d : ℕ) (s : Store) → o.next ≡ pos t
    → turns_trace x k loops o (c + d) s ≡ and_then s (turns_trace x k loops o c s) (turns_trace x k loops (turns_later o c) d)

-- what is shown in b turns begins what is shown in more turns
abbrev pub FewerTurnsBegin : Type 0
FewerTurnsBegin = (x : Expectation) (k : ℕ) (loops : List Loop) (o : Outer) (t b c : ℕ) (s : Store) (left : ℕ) → o.next ≡ pos t → b ≤ c
    → (more : List Observation) × (seen_in (turns_trace x k loops o c s) left ≡ seen_in (turns_trace x k loops o b s) left ++ more)

-- a run that finishes at an address that is not in its expected interval
abbrev pub IsStopped : Finish → Type 0
IsStopped (Halted (Stopped access seen expected)) = Unit {0}
IsStopped finish = ⊥

-- turns whose addresses are verified, and which stop nowhere, are the turns that verify nothing
abbrev pub UnstoppedTurnsArePlain : Type 0
UnstoppedTurnsArePlain = (x : Expectation) (k : ℕ) (loops : List Loop) (o : Outer) (c : ℕ) (s : Store) (left used : ℕ) → (IsStopped (cut (turns_trace x k loops o c s) s left used).ending → ⊥)
    → (cut (turns_trace x k loops o c s) s left used ≡ cut (turns_trace plain k loops o c s) s left used)
    × (seen_in (turns_trace x k loops o c s) left ≡ seen_in (turns_trace plain k loops o c s) left)

-- the turns of a `for`, from what its head yields
abbrev pub all_turns : Yield → ℕ
all_turns (Bounds lower trip) = trip
all_turns (Tested holds) = 0

-- a nest whose outermost loop is a `for` is the step of its head, and then all the turns from the first
-- position
abbrev pub ForIsItsTurns : Type 0
ForIsItsTurns = (x : Expectation) (k : ℕ) (l : Loop) (ls : List Loop) (lower upper : Expr) (stride : ℤ) (s : Store) → l.head ≡ For lower upper stride
    → loops_trace x k 1 (l ∷ ls) outside s ≡ traced (headed (frame_of x part.Head 1 outside) l.head (λ y. turns_trace x k (l ∷ ls) (first_position y) (all_turns y) ∷ []) s) s

-- where the outermost loop ends, the nest is done
abbrev pub over_is_done : Finish → Finish
over_is_done (Halted Over) = Done
over_is_done finish = finish

-- a nest whose outermost loop is a `while` runs as its turns from the first position do, where these are
-- more than the steps that are left: the same store, steps and observations, and done where the loop ends
abbrev pub WhileIsItsTurns : Type 0
WhileIsItsTurns = (x : Expectation) (k : ℕ) (l : Loop) (ls : List Loop) (condition : Expr) (c : ℕ) (s : Store) (left used : ℕ) → l.head ≡ While condition → left < k → left < c
    → (cut (loops_trace x k 1 (l ∷ ls) outside s) s left used
    ≡ (let run : Cut = cut (turns_trace x k (l ∷ ls) (first_position (Tested true)) c s) s left used in record run { ending = over_is_done run.ending }))
    × (seen_in (loops_trace x k 1 (l ∷ ls) outside s) left ≡ seen_in (turns_trace x k (l ∷ ls) (first_position (Tested true)) c s) left)
