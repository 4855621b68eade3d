-- Plain runs: what nests do, one after another, within a number of steps.
use Rattle.std.specs.Prelude.{ℕ, ◌+◌, List, map}
use Rattle.nest_lang.specs.declared.tree.Loop.{Loop}
use Rattle.nest_lang.specs.declared.tree.Nest.{Nest}
use Rattle.nest_lang.specs.declared.budget.Ending.{Ending}
use Rattle.nest_lang.specs.declared.budget.Ending.TheVariants as ending
use Rattle.nest_lang.specs.Stores.{Store}
use Rattle.nest_lang.specs.Lookups.{plain}
use Rattle.nest_lang.specs.Traces.{Trace, in_turn, Finish, Done, Halted, Limited, Trapped, Cut, cut}
use Rattle.nest_lang.specs.Loops.{loops_trace, outside}

-- the trace of a nest in original order, where each `while` has at most k turns. Its first k entries
-- are those of the nest, since each turn of a `while` has one.
unfoldable pub nest_trace : ℕ → List Loop → Store → Trace
nest_trace k loops = loops_trace plain k 1 loops outside

-- the trace of nests, one after another, each from the store that the one before leaves
unfoldable pub nests_trace : ℕ → List Nest → Store → Trace
nests_trace k nests = in_turn (map (λ nest. nest_trace k nest.loops) nests)

-- a run: the store then, how it finished, and its steps
pub record Run : Type 0 where
  pub store : Store
  pub ending : Finish
  pub steps : ℕ

abbrev pub run_of : Cut → Run
run_of c = record { store = c.store; ending = c.ending; steps = c.used }

-- the plain run of nests from a store within n steps: their trace, cut after n entries. No entry past
-- the one after these is named, so a `while` need have no more than n + 1 turns.
unfoldable pub plain_run : List Nest → Store → ℕ → Run
plain_run nests s n = run_of (cut (nests_trace (n + 1) nests s) s n 0)

-- how a plain run finishes, as the code says it
abbrev pub finish_of_ending : Ending → Finish
finish_of_ending ending.Ended = Done
finish_of_ending (ending.Trapped trap) = Halted (Trapped trap)
finish_of_ending ending.Limited = Limited
