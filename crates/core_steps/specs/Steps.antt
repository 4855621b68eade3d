-- The nine kinds of step: the condition of each, its effect, and its answer.
use Rattle.std.specs.Prelude.{◌≡◌, ℕ, ℤ, ◌<◌, ◌≤◌, ◌==◌, true, false, ◌⊎◌, if◌then◌else◌, List, [], ◌∷◌, ◌++◌, length, pos, slice_set}
use Rattle.std.specs.Int.{w64, cast_unsigned, cast_signed}
use Rattle.core_steps.specs.declared.plan.Plan.{Plan}
use Rattle.core_steps.specs.declared.step.Step.{Step}
use Rattle.core_steps.specs.declared.step.Step.TheVariants.{Post, Split, Load, Store, See, Raise, Claim, Join, Settle}
use Rattle.core_steps.specs.declared.view.View.{View}
use Rattle.core_steps.specs.Numbers.{has}
use Rattle.core_steps.specs.Plans.{IsSeparate, IsInside}
use Rattle.core_steps.specs.Views.{may_load, may_store, posted_view, lending_view, lent_view, based_view, storing_view, seeing_view, failed_view, claiming_view, joined_view, settled_view, spent_view}
use Rattle.core_steps.specs.States.{State, claim_word, memory_word, flag_of, claim_of, word_of, memory_of, view_of, with_view, IsOut, IsWord}

-- the plan is separate, has at most 65,536 tiles, and its addresses are words
abbrev pub IsPlan : Plan → State → Type 0
IsPlan plan s = IsSeparate plan × (length plan.tiles ≤ 65536) × IsInside (length (memory_of s.words)) plan

-- main loads and stores words where no plan is posted; a worker whose seat is out loads reads and writes of tiles
-- that it holds, and stores to their writes
abbrev pub MayTouch : ℕ → State → Type 0
MayTouch a s = (s.main.posted ≡ false) × IsWord a s

abbrev pub MayLoad : ℕ → ℕ → State → Type 0
MayLoad i a s = ((i ≡ 0) × MayTouch a s) ⊎ (IsOut i s × (may_load (view_of i s.seats) a ≡ true))

abbrev pub MayStore : ℕ → ℕ → State → Type 0
MayStore i a s = ((i ≡ 0) × MayTouch a s) ⊎ (IsOut i s × (may_store (view_of i s.seats) a ≡ true))

-- the condition of a step
abbrev pub Lawful : Step → State → Type 0
Lawful (Post plan) s = (s.main.posted ≡ false) × (s.main.out ≡ []) × IsPlan plan s
Lawful (Split w) s = (s.main.posted ≡ true) × (0 < w) × (has w s.main.out ≡ false)
Lawful (Load i a) s = MayLoad i a s
Lawful (Store i a x) s = MayStore i a s
Lawful (See i) s = (i ≡ 0) ⊎ IsOut i s
Lawful (Raise w) s = IsOut w s
Lawful (Claim w k) s = IsOut w s × (k < length s.main.plan.tiles)
Lawful (Join w) s = IsOut w s
Lawful Settle s = (s.main.posted ≡ true) × (s.main.out ≡ [])

-- the view of a seat, which is main's for the number 0
abbrev pub seat_of : ℕ → State → View
seat_of i s = if i == 0 then s.main else view_of i s.seats

-- the state with u in the place of the view of a seat
abbrev pub with_seat : ℕ → View → State → State
with_seat i u s = if i == 0 then record s { main = u } else record s { seats = with_view i u s.seats }

-- the state with a word changed
abbrev pub with_word : ℕ → ℕ → State → State
with_word place x s = record s { words = slice_set s.words place x }

-- the state after a lawful step
abbrev pub state_after : Step → State → State
state_after (Post plan) s = record s { main = posted_view s.main (memory_of s.words) plan }
state_after (Split w) s = record s { main = lending_view s.main w; seats = s.seats ++ lent_view s.main w ∷ [] }
state_after (Load i a) s = s
state_after (Store i a x) s = let bits = cast_unsigned w64 x in let v = seat_of i s in
    with_seat i (if i == 0 then based_view v a bits else storing_view v a bits) (with_word (memory_word a) bits s)
state_after (See i) s = with_seat i (seeing_view (seat_of i s) (flag_of s.words)) s
state_after (Raise w) s = let v = seat_of w s in with_seat w (failed_view v) (with_word 0 v.epoch s)
state_after (Claim w k) s = let v = seat_of w s in with_seat w (claiming_view v k (claim_of s.words k)) (with_word (claim_word k) v.epoch s)
state_after (Join w) s = let v = view_of w s.seats in record s { main = joined_view s.main v; seats = with_view w spent_view s.seats }
state_after Settle s = record s { main = settled_view s.main (memory_of s.words) }

-- what a lawful step answers, 0 where there is nothing to say
abbrev pub answer_of : Step → State → ℤ
answer_of (Load i a) s = cast_signed w64 (word_of s.words a)
answer_of (See i) s = pos (flag_of s.words)
answer_of (Claim w k) s = pos (claim_of s.words k)
answer_of Settle s = pos (flag_of s.words)
answer_of _ s = pos 0

-- the lawful steps of the list lead from s to t
abbrev pub Runs : List Step → State → State → Type 0
Runs [] s t = s ≡ t
Runs (x ∷ xs) s t = Lawful x s × Runs xs (state_after x s) t
