-- What holds over every list of lawful steps.
use Rattle.std.specs.Prelude.{◌≡◌, ◌↔◌, ℕ, ℤ, ◌==◌, ◌&&◌, Bool, true, false, if◌then◌else◌, List, [], ◌∷◌, Option, Some, None, unwrap_or}
use Rattle.std.specs.Int.{w64, cast_unsigned, cast_signed}
use Rattle.std.specs.List.{list_any}
use Rattle.core_steps.specs.declared.plan.Plan.{Plan}
use Rattle.core_steps.specs.declared.step.Step.{Step}
use Rattle.core_steps.specs.declared.step.Step.TheVariants.{Post, Split, Load, Store, See, Raise, Claim, Join, Settle}
use Rattle.core_steps.specs.Plans.{writes}
use Rattle.core_steps.specs.Views.{Holds, Knows}
use Rattle.core_steps.specs.States.{State, start_of, views_of, view_of, flag_of, word_of, IsOut, IsWord}
use Rattle.core_steps.specs.Steps.{Lawful, Runs, state_after, answer_of}
use Rattle.core_steps.specs.Invariant.{Each, IsSound}

-- lawful steps from the start lead to the state
abbrev pub IsReached : List ℤ → List Step → State → Type 0
IsReached words steps s = Runs steps (start_of words) s

abbrev pub is_settle : Step → Bool
is_settle Settle = true
is_settle (Post _) = false
is_settle (Split _) = false
is_settle (Load _ _) = false
is_settle (Store _ _ _) = false
is_settle (See _) = false
is_settle (Raise _) = false
is_settle (Claim _ _) = false
is_settle (Join _) = false

-- the steps lead from s to t, and none of them is a settle
pub record RunsWithin (steps : List Step) (s t : State) : Type 0 where
  pub run : Runs steps s t
  pub unsettled : list_any is_settle steps ≡ false

-- a phase as far as it has come: main posted the plan in the state s, and steps without a settle led to t
pub record IsInPhase (words : List ℤ) (before : List Step) (plan : Plan) (steps : List Step) (s t : State) : Type 0 where
  pub reached : IsReached words before s
  pub posted : Lawful (Post plan) s
  pub within : RunsWithin steps (state_after (Post plan) s) t

-- every list of lawful steps from the start keeps the invariant
abbrev pub EveryRunKeepsTheInvariant : Type 0
EveryRunKeepsTheInvariant = (words : List ℤ) (steps : List Step) (s : State) → IsReached words steps s → IsSound s

-- between a post and its settle, words that are writes of no tile of the plan keep their values
abbrev pub OtherWordsKeep : Type 0
OtherWordsKeep = (words : List ℤ) (before : List Step) (plan : Plan) (steps : List Step) (s t : State) → IsInPhase words before plan steps s t
    → (a : ℕ) → IsWord a s → ((k : ℕ) → writes plan k a ≡ false) → word_of t.words a ≡ word_of s.words a

-- just before each lawful settle, each known tile is held by main, and main's failure is set exactly where the flag is at the epoch
abbrev pub BeforeEachSettle : Type 0
BeforeEachSettle = (words : List ℤ) (steps : List Step) (s : State) → IsReached words steps s → Lawful Settle s
    → ((k : ℕ) → Each (λ _ v. Knows v k → Holds s.main k) (views_of s)) × ((s.main.failed ≡ true) ↔ (flag_of s.words ≡ s.main.epoch))

-- two workers never hold one tile
abbrev pub TwoWorkersNeverHoldOneTile : Type 0
TwoWorkersNeverHoldOneTile = (words : List ℤ) (steps : List Step) (s : State) → IsReached words steps s
    → (i j k : ℕ) → IsOut i s → IsOut j s → Holds (view_of i s.seats) k → Holds (view_of j s.seats) k → i ≡ j

abbrev pub is_join : ℕ → Step → Bool
is_join i (Join w) = w == i
is_join i Settle = false
is_join i (Post _) = false
is_join i (Split _) = false
is_join i (Load _ _) = false
is_join i (Store _ _ _) = false
is_join i (See _) = false
is_join i (Raise _) = false
is_join i (Claim _ _) = false

-- a word is written by at most one view between a post and its settle: where a worker stores in the state t, and a
-- worker stores at the same address later in the phase, in the state u, they are one, and its seat was not taken back
-- in between
abbrev pub OneWriterInAPhase : Type 0
OneWriterInAPhase = (words : List ℤ) (before : List Step) (plan : Plan) (steps : List Step) (s t : State) → IsInPhase words before plan steps s t
    → (i j a : ℕ) (x y : ℤ) (later : List Step) (u : State) → Lawful (Store i a x) t → RunsWithin later (state_after (Store i a x) t) u → Lawful (Store j a y) u
    → (i ≡ j) × (list_any (is_join i) later ≡ false)

-- the bits that the worker w stored last at the address a since its seat was lent, after one more step
abbrev pub stored_after : ℕ → ℕ → Step → Option ℕ → Option ℕ
stored_after w a (Store v b x) stored = if (v == w) && (b == a) then Some (cast_unsigned w64 x) else stored
stored_after w a (Split v) stored = if v == w then None else stored
stored_after w a (Post _) stored = stored
stored_after w a (Load _ _) stored = stored
stored_after w a (See _) stored = stored
stored_after w a (Raise _) stored = stored
stored_after w a (Claim _ _) stored = stored
stored_after w a (Join _) stored = stored
stored_after w a Settle stored = stored

-- and after a list of steps, with what was stored before them
abbrev pub latest : ℕ → ℕ → List Step → Option ℕ → Option ℕ
latest w a [] stored = stored
latest w a (x ∷ xs) stored = latest w a xs (stored_after w a x stored)

-- a worker's load answers its own latest store to that word, else the value at the post, whatever the others did
abbrev pub LoadAnswersOwnStoreOrPost : Type 0
LoadAnswersOwnStoreOrPost = (words : List ℤ) (before : List Step) (plan : Plan) (steps : List Step) (s t : State) → IsInPhase words before plan steps s t
    → (w a : ℕ) → Lawful (Load w a) t → answer_of (Load w a) t ≡ cast_signed w64 (unwrap_or (latest w a steps None) (word_of s.words a))
