-- Traces: a list with one entry for each step, and what ends it.
use Rattle.std.specs.Prelude.{ℕ, zero, suc, ◌+◌, ◌-◌, min, nat_le, ℤ, List, [], ◌∷◌, ◌++◌, length, take, Option, Some, None, if◌then◌else◌}
use Rattle.nest_lang.specs.declared.tree.Trap.{Trap}
use Rattle.nest_lang.specs.declared.tree.BlockRef.{BlockRef}
use Rattle.nest_lang.specs.declared.observe.Seen.{Seen}
use Rattle.nest_lang.specs.Stores.{Store, Effect, effect_on}

-- an occurrence of a block in a run: the block, and the turn numbers of the loops around it
pub record Occurrence : Type 0 where
  pub block : BlockRef
  pub counters : List ℤ

-- an observation: of which occurrence, of what kind, and its value
pub record Observation : Type 0 where
  pub at : Occurrence
  pub what : Seen
  pub value : ℤ

-- one step: what is shown before it is due (where it is the first of its instance), what it shows, in
-- order, and what it changes
pub record Entry : Type 0 where
  pub before : List Observation
  pub seen : List Observation
  pub effect : Effect

-- why a trace ends before all of it is done: a trap; an access whose address is not in its expected
-- interval, with the address and the line of that interval; or no further turn of the outermost loop
pub data Halt : Type 0 where
  Trapped : (trap : Trap) → Halt
  Stopped : (access : ℕ) (seen : ℤ) (expected : Option ℤ) → Halt
  Over : Halt

-- the steps, and the halt that ends them, if one does. The last step is then the one that halted; it
-- changes nothing.
pub record Trace : Type 0 where
  pub entries : List Entry
  pub halt : Option Halt

-- the store after these steps
abbrev pub after_all : Store → List Entry → Store
after_all s [] = s
after_all s (e ∷ es) = after_all (effect_on s e.effect) es

-- no step
abbrev pub ends : Trace
ends = record { entries = []; halt = None }

-- these steps, and then those of another trace, unless a halt ends them
abbrev pub joined : Option Halt → List Entry → Trace → Trace
joined (Some halt) entries more = record { entries = entries; halt = Some halt }
joined None entries more = record { entries = entries ++ more.entries; halt = more.halt }

-- a trace from a store, and then what goes on from the store after it
abbrev pub and_then : Store → Trace → (Store → Trace) → Trace
and_then s t go = joined t.halt t.entries (go (after_all s t.entries))

-- traces one after another, each from the store that the one before leaves
abbrev pub in_turn : List (Store → Trace) → Store → Trace
in_turn [] s = ends
in_turn (f ∷ fs) s = and_then s (f s) (in_turn fs)

-- a transition: the entry of a step, the halt where it halts, and the traces that follow it
pub record Transition : Type 0 where
  pub entry : Entry
  pub halt : Option Halt
  pub rest : List (Store → Trace)

abbrev pub step_of : List Observation → List Observation → Effect → Option Halt → List (Store → Trace) → Transition
step_of before seen effect halt rest = record { entry = record { before = before; seen = seen; effect = effect }; halt = halt; rest = rest }

-- the trace of a transition: its entry, and then the traces that follow it
abbrev pub traced : Transition → Store → Trace
traced st s = joined st.halt (st.entry ∷ []) (in_turn st.rest (effect_on s st.entry.effect))

-- how a run of a trace finishes: with all of it done, with its halt, or limited
pub data Finish : Type 0 where
  Done : Finish
  Halted : (halt : Halt) → Finish
  Limited : Finish

abbrev pub finish_of : Option Halt → Finish
finish_of None = Done
finish_of (Some halt) = Halted halt

-- a run of a trace: the store then, the steps left and used of a budget, and how it finished
pub record Cut : Type 0 where
  pub store : Store
  pub left : ℕ
  pub used : ℕ
  pub ending : Finish

abbrev pub cut_of : Store → ℕ → ℕ → Finish → Cut
cut_of store left used ending = record { store = store; left = left; used = used; ending = ending }

-- a trace from a store, cut where the steps that are left end: it is limited where it has more entries
unfoldable pub cut : Trace → Store → ℕ → ℕ → Cut
cut t s left used =
    cut_of (after_all s (take left t.entries)) (left - length t.entries) (used + min left (length t.entries))
    (if nat_le (length t.entries) left then finish_of t.halt else Limited)

-- what n steps show, in order. What is shown before a step is due is shown also where none is left.
abbrev pub seen_of : List Entry → ℕ → List Observation
seen_of [] n = []
seen_of (e ∷ es) zero = e.before
seen_of (e ∷ es) (suc n) = e.before ++ e.seen ++ seen_of es n

unfoldable pub seen_in : Trace → ℕ → List Observation
seen_in t n = seen_of t.entries n
