-- A run of a chunk that has no deviation, as one value.
use Rattle.std.specs.Prelude.{◌≡◌, ℕ, ◌<◌, ◌-◌, nat_le, ℤ, List, [], ◌∷◌, length, Option, Some, None, Bool, true, false, ◌&&◌, if◌then◌else◌}
use Rattle.std.specs.List.{AllByRecursion}
use Rattle.nest_lang.specs.declared.tree.Loop.{Loop}
use Rattle.nest_lang.specs.declared.state.Outer.{Outer}
use Rattle.nest_lang.specs.Stores.{Store}
use Rattle.nest_lang.specs.Lookups.{plain}
use Rattle.nest_lang.specs.Traces.{Trace, Finish, Done, Halted, Limited, cut, seen_in}
use Rattle.nest_lang.specs.Turns.{turns_trace}
use Rattle.orders.specs.Runs.{Outcome}
use Rattle.orders.specs.Chains.{State, Chained, last, within}
use Rattle.follow.specs.Forecasts.{same_all, all_agree, Forecast}
use Rattle.follow.specs.Plans.{planned, Item}
use Rattle.follow.specs.FollowRuns.{follow_run, item_turns}
use Rattle.follow.specs.ChunkRuns.{HasTurnsIn}
use Rattle.follow.specs.Successors.{closing_scalars, successor_scalars}

abbrev pub is_done : Finish → Bool
is_done Done = true
is_done (Halted halt) = false
is_done Limited = false

-- the words, the scalars and the steps left after a run that shows nothing that disagrees, is done, and closes with
-- these scalars
abbrev pub undeviated : Forecast → List ℤ → Trace → Store → ℕ → Option State
undeviated p closing t s left =
    if all_agree p (seen_in t left) && (is_done (cut t s left 0).ending && same_all (cut t s left 0).store.scalars closing)
    then Some (record { memory = (cut t s left 0).store.memory; scalars = (cut t s left 0).store.scalars; steps = (cut t s left 0).left }) else None

abbrev pub ChunkLaw : Type 0
ChunkLaw = (p : Forecast) (after : Item → List ℤ) (k : ℕ) (loops : List Loop) (o : Outer) (c : ℕ) (s : Store) (left : ℕ) (x : Item) (xs : List Item)
    → HasTurnsIn loops o c → planned p loops o c ≡ x ∷ xs → left < k → Chained (item_turns p after) x xs
    → s.locals ≡ [] → AllByRecursion (λ (i : Item). length (p.scalars i.at) ≡ length s.scalars) (x ∷ xs)
    → undeviated p (after (last x xs)) (turns_trace plain k loops o c s) s left
    ≡ (if same_all s.scalars (p.scalars x.at) then within (item_turns p after) (last x xs) left (follow_run p after (x ∷ xs) s.memory) else None)

abbrev pub closed_with : List ℤ → ℕ → Option Outcome → Option State
closed_with closing left None = None
closed_with closing left (Some r) = if nat_le r.steps left then Some (record { memory = r.memory; scalars = closing; steps = left - r.steps }) else None

abbrev pub ChainOfChunk : Type 0
ChainOfChunk = (p : Forecast) (k : ℕ) (loops : List Loop) (o : Outer) (c : ℕ) (s : Store) (left : ℕ) (x : Item) (xs : List Item)
    → HasTurnsIn loops o c → planned p loops o c ≡ x ∷ xs → left < k
    → s.locals ≡ [] → AllByRecursion (λ (i : Item). length (p.scalars i.at) ≡ length s.scalars) (x ∷ xs)
    → undeviated p (closing_scalars p loops o c) (turns_trace plain k loops o c s) s left
    ≡ (if same_all s.scalars (p.scalars x.at) then closed_with (closing_scalars p loops o c) left (follow_run p (successor_scalars p loops o c) (x ∷ xs) s.memory) else None)
