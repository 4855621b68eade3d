-- Codes: what register code means.
use Rattle.std.specs.Prelude.{ℕ, zero, suc, ℤ, pos, List, [], ◌∷◌, ◌++◌, get_or, slice_set, unsigned_abs, Option, Some, None, Result, Ok, Err, if◌then◌else◌}
use Rattle.nest_lang.specs.declared.tree.Op.TheVariants.{Add, Sub, Mul}
use Rattle.nest_lang.specs.declared.observe.Seen.TheVariants.{Address}
use Rattle.nest_lang.specs.declared.observe.Stop.{Stop}
use Rattle.nest_lang.specs.Values.{apply_of, negate_of, same}
use Rattle.nest_lang.specs.Stores.{Store, Effect, Nothing, Local, Scalar, Word}
use Rattle.nest_lang.specs.Lookups.{look_load, look_store}
use Rattle.nest_lang.specs.Traces.{Observation, Halt, Trace, ends, Transition, step_of, traced}
use Rattle.nest_lang.specs.Expressions.{Frame, shown, or_trapped, or_stopped, place_value}
use Rattle.block_exec.specs.declared.code.Input.{Input}
use Rattle.block_exec.specs.declared.code.Input.TheVariants as input
use Rattle.block_exec.specs.declared.code.Instruction.{Instruction}
use Rattle.block_exec.specs.declared.code.Instruction.TheVariants as instruction
use Rattle.block_exec.specs.declared.code.End.{End}
use Rattle.block_exec.specs.declared.code.End.TheVariants as end
use Rattle.block_exec.specs.declared.code.Act.{Act}
use Rattle.block_exec.specs.declared.code.Act.TheVariants as act

-- what a register holds
abbrev pub held : List ℤ → ℕ → ℤ
held registers n = get_or registers n (pos 0)

-- the value of an input, given the values of the loops' names
abbrev pub input_value : List ℤ → Input → ℤ
input_value values (input.Number n) = n
input_value values (input.Counter n) = get_or values n (pos 0)

-- what instructions come to: what they show, and the registers, or the halt
pub record Gone : Type 0 where
  pub seen : List Observation
  pub registers : Result (List ℤ) Halt

abbrev pub gone : List Observation → Result (List ℤ) Halt → Gone
gone seen registers = record { seen = seen; registers = registers }

-- a register is set to a value, unless there is a halt
abbrev pub set_to : List ℤ → ℕ → Result ℤ Halt → Result (List ℤ) Halt
set_to registers to (Ok v) = Ok (slice_set registers to v)
set_to registers to (Err halt) = Err halt

-- one instruction. The address of a load is shown before it is looked up.
unfoldable pub instruction_gone : Frame → List ℤ → List ℤ → (ℕ → ℤ → Result ℤ Stop) → Instruction → List ℤ → Gone
instruction_gone f scalars locals find (instruction.Load access to a) rs =
    gone (shown f (Address access) (held rs a) ∷ []) (set_to rs to (or_stopped access (find access (held rs a))))
instruction_gone f scalars locals find (instruction.Name to place) rs =
    gone [] (set_to rs to (Ok (place_value f.values scalars locals place)))
instruction_gone f scalars locals find (instruction.Neg to a) rs = gone [] (set_to rs to (or_trapped (negate_of (held rs a))))
instruction_gone f scalars locals find (instruction.Add to a b) rs = gone [] (set_to rs to (or_trapped (apply_of Add (held rs a) (held rs b))))
instruction_gone f scalars locals find (instruction.Sub to a b) rs = gone [] (set_to rs to (or_trapped (apply_of Sub (held rs a) (held rs b))))
instruction_gone f scalars locals find (instruction.Mul to a b) rs = gone [] (set_to rs to (or_trapped (apply_of Mul (held rs a) (held rs b))))
instruction_gone f scalars locals find (instruction.Two op to a b) rs = gone [] (set_to rs to (or_trapped (apply_of op (held rs a) (held rs b))))

-- one instruction, and then what goes on from its registers
abbrev pub then_go : List Observation → Result (List ℤ) Halt → (List ℤ → Gone) → Gone
then_go seen (Err halt) go = gone seen (Err halt)
then_go seen (Ok rs) go = gone (seen ++ (go rs).seen) (go rs).registers

-- instructions one after another
unfoldable pub instructions_gone : Frame → List ℤ → List ℤ → (ℕ → ℤ → Result ℤ Stop) → List Instruction → List ℤ → Gone
instructions_gone f scalars locals find [] rs = gone [] (Ok rs)
instructions_gone f scalars locals find (p ∷ ps) rs =
    then_go (instruction_gone f scalars locals find p rs).seen (instruction_gone f scalars locals find p rs).registers (instructions_gone f scalars locals find ps)

-- what a step does at its end: a change, and so many acts that are skipped
pub record Does : Type 0 where
  pub effect : Effect
  pub skips : ℕ

abbrev pub does : Effect → ℕ → Does
does effect skips = record { effect = effect; skips = skips }

-- what a step shows at its end: a store shows its address
abbrev pub shown_by : Frame → End → List ℤ → List Observation
shown_by f (end.Let number a) rs = []
shown_by f (end.Set number a) rs = []
shown_by f (end.Store access a b) rs = shown f (Address access) (held rs a) ∷ []
shown_by f (end.Unless a n) rs = []

abbrev pub word_does : ℤ → ℤ → Result ℤ Halt → Result Does Halt
word_does address v (Ok old) = Ok (does (Word (unsigned_abs address) v) 0)
word_does address v (Err halt) = Err halt

-- and what it does, or its halt
abbrev pub done_by : Frame → End → List ℤ → Store → Result Does Halt
done_by f (end.Let number a) rs s = Ok (does (Local number (held rs a)) 0)
done_by f (end.Set number a) rs s = Ok (does (Scalar number (held rs a)) 0)
done_by f (end.Store access a b) rs s = word_does (held rs a) (held rs b) (or_stopped access (look_store f.expects s.memory access (held rs a)))
done_by f (end.Unless a n) rs s = Ok (does Nothing (if same (held rs a) (pos 0) then n else 0))

-- `go` is what follows, from how many acts further on
abbrev pub done_level : List Observation → Result Does Halt → List ℤ → (ℕ → List ℤ → Store → Trace) → Transition
done_level seen (Ok d) rs go = step_of [] seen d.effect None (go d.skips rs ∷ [])
done_level seen (Err halt) rs go = step_of [] seen Nothing (Some halt) []

-- a step: its instructions, and then what it does
abbrev pub act_level : Frame → End → List Observation → Result (List ℤ) Halt → Store → (ℕ → List ℤ → Store → Trace) → Transition
act_level f w seen (Ok rs) s go = done_level (seen ++ shown_by f w rs) (done_by f w rs s) rs go
act_level f w seen (Err halt) s go = step_of [] seen Nothing (Some halt) []

abbrev pub gone_in : Frame → Store → List Instruction → List ℤ → Gone
gone_in f s ps rs = instructions_gone f s.scalars s.locals (look_load f.expects s.memory) ps rs

-- the trace of acts behind so many that are skipped, with the registers as they are
unfoldable pub acts_trace : Frame → List Act → ℕ → List ℤ → Store → Trace
acts_trace f [] n rs s = ends
acts_trace f (a ∷ more) (suc n) rs s = acts_trace f more n rs s
acts_trace f (act.Skip n ∷ more) zero rs s = acts_trace f more n rs s
acts_trace f (act.Step ps w ∷ more) zero rs s =
    traced (act_level f w (gone_in f s ps rs).seen (gone_in f s ps rs).registers s (acts_trace f more)) s
