-- Turns: where the outermost loop stands, and some turns of it.
use Rattle.std.specs.Prelude.{◌≡◌, ℕ, zero, suc, ◌<◌, ◌≤◌, ◌+◌, ◌-◌, pos, ◌+ℤ◌, unsigned_abs, FitsSigned, List, [], ◌∷◌, Option, Some, None, true}
use Rattle.std.specs.Int.{w64}
use Rattle.nest_lang.specs.declared.tree.Head.{Head}
use Rattle.nest_lang.specs.declared.tree.Head.TheVariants.{For, While}
use Rattle.nest_lang.specs.declared.tree.Loop.{Loop}
use Rattle.nest_lang.specs.declared.tree.Part.TheVariants as part
use Rattle.nest_lang.specs.declared.state.Outer.{Outer}
use Rattle.nest_lang.specs.declared.budget.Turned.{Turned}
use Rattle.nest_lang.specs.declared.budget.Turned.TheVariants as turned
use Rattle.nest_lang.specs.Values.{turn_value}
use Rattle.nest_lang.specs.Stores.{Store}
use Rattle.nest_lang.specs.Lookups.{Expectation}
use Rattle.nest_lang.specs.Traces.{Trapped, Over, Trace, ends, and_then, traced, Finish, Done, Halted, Limited, cut}
use Rattle.nest_lang.specs.Expressions.{Frame}
use Rattle.nest_lang.specs.Heads.{Yield, Bounds, Tested, headed}
use Rattle.nest_lang.specs.Loops.{Around, inward, outside, frame_of, turn_trace, loops_trace}

-- no further turn
abbrev pub over : Trace
over = record { entries = []; halt = Some Over }

-- c turns from turn t on of a `for` of which n turns are left; a turn past these is none
abbrev pub counted_turns : ℕ → ℕ → ℕ → (ℕ → Store → Trace) → Store → Trace
counted_turns zero n t turn s = ends
counted_turns (suc c) zero t turn s = over
counted_turns (suc c) (suc n) t turn s = and_then s (turn t s) (counted_turns c n (t + 1) turn)

abbrev pub turn_or_over : (Store → Trace) → (Store → Trace) → Yield → List (Store → Trace)
turn_or_over turn more (Tested true) = turn ∷ more ∷ []
turn_or_over turn more yield = (λ s. over) ∷ []

-- c turns from turn t on of a `while`: its condition is an instance before each of them, and where it
-- doesn't hold, there is no further turn
abbrev pub tested_turns : ℕ → ℕ → (ℕ → Frame) → Head → (ℕ → Store → Trace) → Store → Trace
tested_turns zero t frame head turn s = ends
tested_turns (suc c) t frame head turn s = traced (headed (frame t) head (turn_or_over (turn t) (tested_turns c (t + 1) frame head turn)) s) s

abbrev pub number_left : Option ℕ → ℕ
number_left None = 0
number_left (Some n) = n

-- c turns of an outermost loop from a position on, from the trace of a turn of it
abbrev pub turns_by : Head → Expectation → Head → (Around → Store → Trace) → Outer → ℕ → Store → Trace
turns_by (For lower upper stride) x head turn o c s =
    counted_turns c (number_left o.left) (unsigned_abs o.next) (λ t. turn (inward outside t (turn_value o.lower stride t))) s
turns_by (While condition) x head turn o c s =
    tested_turns c (unsigned_abs o.next) (λ t. frame_of x part.Head 1 (inward outside t (pos t))) head (λ t. turn (inward outside t (pos t))) s

-- c turns of a nest from a position of its outermost loop on, where each `while` inside has at most k
-- turns. It ends with the halt `Over` where the loop ends before.
unfoldable pub turns_trace : Expectation → ℕ → List Loop → Outer → ℕ → Store → Trace
turns_trace x k [] o c s = ends
turns_trace x k (l ∷ ls) o c s = turns_by l.head x l.head (turn_trace x 1 l (loops_trace x k 2 ls)) o c s

-- how a run of some turns finishes, as the code says it
abbrev pub finish_of_turned : Turned → Finish
finish_of_turned turned.Went = Done
finish_of_turned turned.Ended = Halted Over
finish_of_turned (turned.Trapped trap) = Halted (Trapped trap)
finish_of_turned turned.Limited = Limited

-- the position some turns later
abbrev pub left_after : Option ℕ → ℕ → Option ℕ
left_after None j = None
left_after (Some n) j = Some (n - j)

abbrev pub turns_later : Outer → ℕ → Outer
turns_later o j = record { lower = o.lower; next = o.next +ℤ pos j; left = left_after o.left j }

-- of at most c turns, j is the number of whole turns that the steps left suffice for: j turns are done
-- with them, and no more
pub record AreWhole (turns : ℕ → Store → Trace) (s : Store) (left c j : ℕ) : Type 0 where
  pub within : j ≤ c
  pub done : (cut (turns j s) s left 0).ending ≡ Done
  pub most : (i : ℕ) → j < i → i ≤ c → (cut (turns i s) s left 0).ending ≡ Done → ⊥

-- a position of a loop: the number of its next turn, and of a `for` the turns that are left, whose
-- values are i64
abbrev pub IsPosition : Head → Outer → Type 0
IsPosition (For lower upper stride) o =
    (t : ℕ) × (n : ℕ) × (o.next ≡ pos t) × (o.left ≡ Some n) × ((i : ℕ) → i < n → FitsSigned w64 (turn_value o.lower stride (t + i)))
IsPosition (While condition) o = (t : ℕ) × (o.next ≡ pos t) × (o.left ≡ None)

-- a position of a nest is one of its outermost loop
abbrev pub IsPositionIn : List Loop → Outer → Type 0
IsPositionIn [] o = ⊥
IsPositionIn (l ∷ ls) o = IsPosition l.head o

-- the position before the first turn
abbrev pub first_position : Yield → Outer
first_position (Bounds lower trip) = record { lower = lower; next = pos 0; left = Some trip }
first_position (Tested holds) = record { lower = pos 0; next = pos 0; left = None }

-- the steps of an entry: the head of a `for` is evaluated before its first turn, and that of a `while`
-- with each turn
abbrev pub entry_steps_of : Head → ℕ
entry_steps_of (For lower upper stride) = 1
entry_steps_of (While condition) = 0

abbrev pub entry_steps : List Loop → ℕ
entry_steps [] = 0
entry_steps (l ∷ ls) = entry_steps_of l.head
