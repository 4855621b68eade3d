-- Moments: what the words are while a chunk runs, whose steps are those of the core machine.
use Rattle.std.specs.Prelude.{◌≡◌, ℕ, ℤ, false, List}
use Rattle.std.specs.List.{AllByRecursion, Contains}
use Rattle.core_steps.specs.declared.step.Step.{Step}
use Rattle.core_steps.specs.declared.step.Step.TheVariants.{Post, Split, Load, Store, See, Raise, Claim, Join, Settle}
use Rattle.core_steps.specs.States.{State, word_of}
use Rattle.core_steps.specs.Steps.{Runs}
use Rattle.core_steps.specs.Laws.{IsReached}
use Rattle.tiles.specs.Stripes.{addresses_of_all}
use Rattle.plain_lemmas.specs.Lists.{Has}
use Rattle.skeletons.specs.Cells.{Extent}
use Rattle.tiles.specs.Plans.{ChunkPlan, Phase, IsPlanOf}

-- the address is one of the plan's stripes
abbrev pub IsStriped : ChunkPlan → ℕ → Type 0
IsStriped p a = Contains (addresses_of_all p.stripes) a

-- a step of a chunk that is run by this plan: what is posted is the plan of one of its phases, and main stores only at
-- addresses of its stripes; each other step is one
abbrev pub IsStepOf : ChunkPlan → Step → Type 0
IsStepOf p (Post plan) = (phase : Phase) × Has p.phases phase × (plan ≡ phase.plan)
IsStepOf p (Split w) = Unit {0}
IsStepOf p (Load i a) = Unit {0}
IsStepOf p (Store i a x) = i ≡ 0 → IsStriped p a
IsStepOf p (See i) = Unit {0}
IsStepOf p (Raise w) = Unit {0}
IsStepOf p (Claim w k) = Unit {0}
IsStepOf p (Join w) = Unit {0}
IsStepOf p Settle = Unit {0}

-- a chunk as far as it has come: in the state s, to which steps over these words led, no plan was posted, and lawful steps
-- of the chunk led from there to t
pub record IsInChunk (words : List ℤ) (before : List Step) (p : ChunkPlan) (steps : List Step) (s t : State) : Type 0 where
  pub reached : IsReached words before s
  pub unposted : s.main.posted ≡ false
  pub run : Runs steps s t
  pub each : AllByRecursion (IsStepOf p) steps

-- at every moment of a chunk, words that are no address of its plan's stripes have their values from the chunk's start
abbrev pub OthersStay : Type 0
OthersStay =
    (e : Extent) (count : ℕ) (p : ChunkPlan) (words : List ℤ) (before steps : List Step) (s t : State) → IsPlanOf e count p → IsInChunk words before p steps s t
    → (a : ℕ) → (IsStriped p a → ⊥) → word_of t.words a ≡ word_of s.words a
