-- Plans: the instances of a chunk in original order, from the expected numbers of turns.
use Rattle.std.specs.Prelude.{ℕ, zero, suc, ◌+◌, ℤ, pos, negsuc, unsigned_abs, List, [], ◌∷◌, ◌++◌, Option}
use Rattle.nest_lang.specs.declared.tree.Stmt.{Stmt}
use Rattle.nest_lang.specs.declared.tree.Head.{Head}
use Rattle.nest_lang.specs.declared.tree.Head.TheVariants.{For, While}
use Rattle.nest_lang.specs.declared.tree.Loop.{Loop}
use Rattle.nest_lang.specs.declared.tree.Part.{Part}
use Rattle.nest_lang.specs.declared.tree.Part.TheVariants as part
use Rattle.nest_lang.specs.declared.state.Outer.{Outer}
use Rattle.nest_lang.specs.Values.{turn_value}
use Rattle.nest_lang.specs.Stores.{Store}
use Rattle.nest_lang.specs.Lookups.{Expectation}
use Rattle.nest_lang.specs.Traces.{Occurrence, Trace, traced}
use Rattle.nest_lang.specs.Expressions.{Frame}
use Rattle.nest_lang.specs.Statements.{instance_trace}
use Rattle.nest_lang.specs.Heads.{headed}
use Rattle.nest_lang.specs.Loops.{Around, inward, outside}
use Rattle.follow.specs.Forecasts.{expectation_at, Forecast}
use Rattle.follow.specs.Reaches.{onward, here, reach, Reached}

-- what an instance does: it runs the statements of a block, of which there is at least one, or evaluates
-- a head
pub data Work : Type 0 where
  Runs : (first : Stmt) (rest : List Stmt) → Work
  Evaluates : (head : Head) → Work

-- an instance with what it runs: its block and turn numbers, the values of the names of the loops around it, and its
-- work
pub record Item : Type 0 where
  pub at : Occurrence
  pub values : List ℤ
  pub work : Work

-- the instance of a block at these turns of the loops around it
abbrev pub occurrence : Part → ℕ → Around → Occurrence
occurrence part level a = record { block = record { part = part; level = level }; counters = a.counters }

abbrev pub item : Part → ℕ → Around → Work → Item
item part level a work = record { at = occurrence part level a; values = a.values; work = work }

abbrev pub frame_with : Occurrence → List ℤ → Expectation → Frame
frame_with at values x = record { at = at; values = values; expects = x }

abbrev pub work_trace : Frame → Work → Store → Trace
work_trace f (Runs first rest) s = instance_trace f (first ∷ rest) s
work_trace f (Evaluates head) s = traced (headed f head (λ y. []) s) s

-- the trace of one instance, with its addresses verified
abbrev pub item_trace : Forecast → Item → Store → Trace
item_trace p i s = work_trace (frame_with i.at i.values (expectation_at p i.at)) i.work s

-- the number of turns of a trip as it is expected; none where it is negative
abbrev pub turns_in : ℤ → ℕ
turns_in (pos n) = n
turns_in (negsuc n) = 0

-- a block without statements has no instance
abbrev pub plan_block : Part → ℕ → Around → List Stmt → List Item
plan_block part level a [] = []
plan_block part level a (x ∷ xs) = item part level a (Runs x xs) ∷ []

abbrev pub plan_turn : ℕ → Loop → (Around → List Item) → Around → List Item
plan_turn level l inner a = plan_block part.Pre level a l.pre ++ (inner a ++ plan_block part.Post level a l.post)

-- n turns from turn t on
abbrev pub plan_turns : ℕ → ℕ → (ℕ → List Item) → List Item
plan_turns zero t turn = []
plan_turns (suc n) t turn = turn t ++ plan_turns n (t + 1) turn

-- n turns of a `while` from turn t on, a condition before each of them, and one more
abbrev pub plan_whiles : ℕ → ℕ → (ℕ → Item) → (ℕ → List Item) → List Item
plan_whiles zero t test turn = test t ∷ []
plan_whiles (suc n) t test turn = test t ∷ turn t ++ plan_whiles n (t + 1) test turn

abbrev pub plan_loop : Head → Forecast → ℕ → Head → (Around → List Item) → Around → List Item
plan_loop (For lower upper stride) p level head turn a =
    item part.Head level a (Evaluates head) ∷
    plan_turns (turns_in (p.trip (record { part = part.Head; level = level }) a.counters)) 0 (λ t. turn (inward a t (turn_value (p.lower (record { block = record { part = part.Head; level = level }; counters = a.counters })) stride t)))
plan_loop (While condition) p level head turn a =
    plan_whiles (turns_in (p.trip (record { part = part.Head; level = level }) a.counters)) 0
    (λ t. item part.Head level (inward a t (pos t)) (Evaluates head)) (λ t. turn (inward a t (pos t)))

-- loops inside one another, the outermost at a level
abbrev pub plan_loops : Forecast → ℕ → List Loop → Around → List Item
plan_loops p level [] a = []
plan_loops p level (l ∷ ls) a = plan_loop l.head p level l.head (plan_turn level l (plan_loops p (level + 1) ls)) a

-- c turns of an outermost `while` from turn t on, a condition before each of them
abbrev pub plan_tested : ℕ → ℕ → (ℕ → Item) → (ℕ → List Item) → List Item
plan_tested zero t test turn = []
plan_tested (suc c) t test turn = test t ∷ turn t ++ plan_tested c (t + 1) test turn

abbrev pub plan_outer : Head → Head → (Around → List Item) → Outer → ℕ → List Item
plan_outer (For lower upper stride) head turn o c = plan_turns c (unsigned_abs o.next) (λ t. turn (inward outside t (turn_value o.lower stride t)))
plan_outer (While condition) head turn o c =
    plan_tested c (unsigned_abs o.next) (λ t. item part.Head 1 (inward outside t (pos t)) (Evaluates head)) (λ t. turn (inward outside t (pos t)))

-- the instances of c turns of a nest from a position of its outermost loop on
unfoldable pub planned : Forecast → List Loop → Outer → ℕ → List Item
planned p [] o c = []
planned p (l ∷ ls) o c = plan_outer l.head l.head (plan_turn 1 l (plan_loops p 2 ls)) o c

-- where instances lead one after another, each from the store that the one before leaves
abbrev pub chain : Forecast → List Item → Store → Option Reached
chain p [] s = here s
chain p (i ∷ is) s = onward (reach p (item_trace p i s) s) (chain p is)
