-- Heads: what the head of a loop yields, and what it shows.
use Rattle.std.specs.Prelude.{ℕ, ℤ, pos, List, [], ◌∷◌, ◌++◌, Some, None, Result, Ok, Err, Bool, not, if◌then◌else◌}
use Rattle.nest_lang.specs.declared.tree.Head.{Head}
use Rattle.nest_lang.specs.declared.tree.Head.TheVariants.{For, While}
use Rattle.nest_lang.specs.declared.observe.Seen.TheVariants.{Lower, Trip, Condition}
use Rattle.nest_lang.specs.Values.{same, trip_count}
use Rattle.nest_lang.specs.Stores.{Store, Nothing}
use Rattle.nest_lang.specs.Traces.{Observation, Halt, Trace, Transition, step_of}
use Rattle.nest_lang.specs.Expressions.{Frame, shown, told}
use Rattle.nest_lang.specs.Statements.{announced}

-- the lower bound and the number of turns of a `for`, or whether the condition of a `while` holds
pub data Yield : Type 0 where
  Bounds : (lower : ℤ) (trip : ℕ) → Yield
  Tested : (holds : Bool) → Yield

-- what a head shows, and what it yields
pub record Headed : Type 0 where
  pub seen : List Observation
  pub value : Result Yield Halt

abbrev pub heading : List Observation → Result Yield Halt → Headed
heading seen value = record { seen = seen; value = value }

abbrev pub then_head : List Observation → Result ℤ Halt → (ℤ → Headed) → Headed
then_head seen (Err halt) go = heading seen (Err halt)
then_head seen (Ok v) go = heading (seen ++ (go v).seen) (go v).value

-- a condition as it is shown: 1 or 0
abbrev pub as_number : Bool → ℤ
as_number b = if b then pos 1 else pos 0

-- the lower bound and then the upper bound of a `for` are evaluated once, as it is entered; the
-- condition of a `while` before each turn. A condition holds where its value is not 0.
unfoldable pub head_of : Frame → Head → Store → Headed
head_of f (For lower upper stride) s =
    then_head (told f s lower).seen (told f s lower).value (λ from.
    then_head (told f s upper).seen (told f s upper).value (λ to.
    heading (shown f Lower from ∷ shown f Trip (pos (trip_count from to stride)) ∷ []) (Ok (Bounds from (trip_count from to stride)))))
head_of f (While condition) s =
    then_head (told f s condition).seen (told f s condition).value (λ v.
    heading (shown f Condition (as_number (not (same v (pos 0)))) ∷ []) (Ok (Tested (not (same v (pos 0))))))

-- the transition of a head, and what follows from what it yields
abbrev pub head_step : List Observation → List Observation → Result Yield Halt → (Yield → List (Store → Trace)) → Transition
head_step before seen (Ok yield) go = step_of before seen Nothing None (go yield)
head_step before seen (Err halt) go = step_of before seen Nothing (Some halt) []

-- an instance of a head is one step
abbrev pub headed : Frame → Head → (Yield → List (Store → Trace)) → Store → Transition
headed f head go s = head_step (announced f s) (head_of f head s).seen (head_of f head s).value go
