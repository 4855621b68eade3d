-- The chain law: a chunk against its instances, one after another.
use Rattle.std.specs.Prelude.{◌≡◌, ◌↔◌, ℕ, ◌<◌, ◌≤◌, ◌-◌, ℤ, List, [], ◌∷◌, length, Some}
use Rattle.std.specs.List.{AllByRecursion}
use Rattle.nest_lang.specs.declared.tree.Loop.{Loop}
use Rattle.nest_lang.specs.declared.state.Outer.{Outer}
use Rattle.nest_lang.specs.Stores.{Store}
use Rattle.nest_lang.specs.Lookups.{plain}
use Rattle.nest_lang.specs.Traces.{Trace, Done, cut}
use Rattle.nest_lang.specs.Turns.{turns_trace, turns_later}
use Rattle.orders.specs.Runs.{Outcome}
use Rattle.follow.specs.Forecasts.{Forecast}
use Rattle.follow.specs.Plans.{planned, Item}
use Rattle.follow.specs.FollowRuns.{follow_run}
use Rattle.follow.specs.ChunkRuns.{HasTurnsIn, chunk_run}
use Rattle.follow.specs.Deviations.{FollowsPrediction}
use Rattle.follow.specs.Successors.{successor_scalars}

-- a chunk of c turns of a nest from a position of its outermost loop: the loop has these turns, `first` is the first
-- instance and `next` that of the turn after the chunk, and as many scalars are expected of each as there are
pub record IsChunk (p : Forecast) (loops : List Loop) (o : Outer) (c scalars : ℕ) (first next : Item) : Type 0 where
  pub turns : HasTurnsIn loops o c
  pub begins : (xs : List Item) × (planned p loops o c ≡ first ∷ xs)
  pub goes_on : (ys : List Item) × (planned p loops (turns_later o c) 1 ≡ next ∷ ys)
  pub sizes : AllByRecursion (λ (i : Item). length (p.scalars i.at) ≡ scalars) (planned p loops o c)
  pub size : length (p.scalars next.at) ≡ scalars

-- the scalars at the chunk's start are those expected of its first instance, the follow run of its instances in
-- original order is this, and its steps are at most those left
pub record Chains (p : Forecast) (loops : List Loop) (o : Outer) (c : ℕ) (s : Store) (left : ℕ) (first : Item) (r : Outcome) : Type 0 where
  pub begins : s.scalars ≡ p.scalars first.at
  pub follows : follow_run p (successor_scalars p loops o c) (planned p loops o c) s.memory ≡ Some r
  pub suffice : r.steps ≤ left

-- where the plain run of the chunk ends
pub record Ends (t : Trace) (s : Store) (left : ℕ) (closing : List ℤ) (r : Outcome) : Type 0 where
  pub memory : (cut t s left 0).store.memory ≡ r.memory
  pub scalars : (cut t s left 0).store.scalars ≡ closing
  pub steps : (cut t s left 0).left ≡ left - r.steps
  pub finish : (cut t s left 0).ending ≡ Done

-- A chunk follows its prediction exactly where the scalars at its start are those expected of its first instance, the
-- follow run of its instances isn't None, and its steps are at most those left. Then the state after the chunk is the
-- memory of that follow run and the scalars expected of the last instance's successor.
abbrev pub ChainHolds : Type 0
ChainHolds = (p : Forecast) (k : ℕ) (loops : List Loop) (o : Outer) (c : ℕ) (s : Store) (left : ℕ) (first next : Item)
    → IsChunk p loops o c (length s.scalars) first next → left < k → s.locals ≡ []
    → (FollowsPrediction p (chunk_run next.at (turns_trace plain k loops o c s) s left) ↔ ((r : Outcome) × Chains p loops o c s left first r))
    × ((r : Outcome) → Chains p loops o c s left first r → Ends (turns_trace plain k loops o c s) s left (p.scalars next.at) r)
