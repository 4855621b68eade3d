-- Halts: why a run was cut short, as the code says it.
use Rattle.std.specs.Prelude.{ℕ, ◌<◌, ℤ, FitsSigned, Result, Ok, Err, Option, Some, None}
use Rattle.std.specs.Int.{w64}
use Rattle.nest_lang.specs.Values.{turn_value}
use Rattle.nest_lang.specs.Heads.{Yield}
use Rattle.nest_lang.specs.Heads as heads
use Rattle.nest_lang.specs.Traces.{Halt, Trapped, Stopped, Finish, Done, Halted, Limited}
use Rattle.block_exec.specs.declared.halt.Halt as code
use Rattle.block_exec.specs.declared.halt.Halt.TheVariants as halt
use Rattle.block_exec.specs.declared.halt.Halted as mark
use Rattle.block_exec.specs.declared.halt.Cut.{Cut}
use Rattle.block_exec.specs.declared.halt.Cut.TheVariants as cut
use Rattle.block_exec.specs.declared.head.Bounds.{Bounds}

-- a halt
abbrev pub halt_by : code.Halt → Halt
halt_by (halt.Trapped trap) = Trapped trap
halt_by (halt.Stopped access seen expected) = Stopped access seen expected

-- a halt that is a trap
abbrev pub IsTrap : code.Halt → Type 0
IsTrap (halt.Trapped trap) = Unit {0}
IsTrap (halt.Stopped access seen expected) = ⊥

-- a value, or the halt that the run keeps
abbrev pub answer_of : {A : Type 0} → Result A mark.Halted → code.Halt → Result A Halt
answer_of (Ok value) h = Ok value
answer_of (Err halted) h = Err (halt_by h)

-- how statements finish
abbrev pub finish_of : Result (Unit {0}) Cut → code.Halt → Finish
finish_of (Ok done) h = Done
finish_of (Err cut.Halted) h = Halted (halt_by h)
finish_of (Err cut.Limited) h = Limited

-- what the bounds of a `for` and the condition of a `while` are as yields of their heads
abbrev pub bounds_yield : Bounds → Yield
bounds_yield b = heads.Bounds b.lower b.trip

-- what a head yields, or the halt that the run keeps
abbrev pub yield_of : {A : Type 0} → (A → Yield) → Result A mark.Halted → code.Halt → Result Yield Halt
yield_of yield (Ok value) h = Ok (yield value)
yield_of yield (Err halted) h = Err (halt_by h)

-- the same where no step may be left for it: nothing then
abbrev pub yield_where_left : {A : Type 0} → (A → Yield) → Result A Cut → code.Halt → Option (Result Yield Halt)
yield_where_left yield (Ok value) h = Some (Ok (yield value))
yield_where_left yield (Err cut.Halted) h = Some (Err (halt_by h))
yield_where_left yield (Err cut.Limited) h = None

-- the values of a `for`'s name are i64 in each of its turns
abbrev pub TurnsFit : Bounds → Type 0
TurnsFit b = (t : ℕ) → t < b.trip → FitsSigned w64 (turn_value b.lower b.stride t)
