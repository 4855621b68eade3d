-- What a call on a seat is: one step of the core.
use Rattle.std.specs.Prelude.{◌≡◌, ◌↔◌, ℕ, ℤ, ◌<◌, true, length, pos}
use Rattle.core_steps.specs.declared.step.Step.{Step}
use Rattle.core_steps.specs.declared.step.Step.TheVariants.{See, Raise, Settle}
use Rattle.core_steps.specs.declared.view.View.{View}
use Rattle.core_steps.specs.Numbers.{IsSingle}
use Rattle.core_steps.specs.Plans.{IsSeparate}
use Rattle.core_steps.specs.Views.{Holds, Knows, OwnsItsValues}
use Rattle.core_steps.specs.States.{State, claim_of}
use Rattle.core_steps.specs.Steps.{Lawful, state_after, answer_of, seat_of}
use Rattle.core_steps.specs.Invariant.{IsSound}

-- the seat i takes the step x: in a state that meets the core invariant the step is lawful and has this answer; the
-- seat's view is v before it and w after it
pub record IsStepOf (i : ℕ) (v : View) (x : Step) (answer : ℤ) (w : View) : Type 0 where
  pub state : State
  pub sound : IsSound state
  pub lawful : Lawful x state
  pub before : seat_of i state ≡ v
  pub answered : answer ≡ answer_of x state
  pub after : seat_of i (state_after x state) ≡ w

-- in the state s a worker's view is sound: each tile stands once in `held`, is a tile of the plan and is claimed at
-- the epoch, and own values belong to writes of held tiles
pub record HoldsSoundly (s : State) (v : View) : Type 0 where
  pub single : IsSingle v.held
  pub planned : (k : ℕ) → Holds v k → k < length v.plan.tiles
  pub claimed : (k : ℕ) → Holds v k → claim_of s.words k ≡ v.epoch
  pub owned : OwnsItsValues v

-- a worker loads the flag, and finds this value
pub record FindsFlag (v : View) (flag : ℕ) (w : View) : Type 0 where
  pub step : IsStepOf v.number v (See v.number) (pos flag) w
  pub holds : HoldsSoundly step.state v

-- a worker raises the flag
pub record RaisesFlag (v w : View) : Type 0 where
  pub step : IsStepOf v.number v (Raise v.number) (pos 0) w
  pub holds : HoldsSoundly step.state v

-- main, which takes back no more seats, ends the phase and finds this value in the flag
pub record EndsPhase (m : View) (flag : ℕ) (n : View) : Type 0 where
  pub step : IsStepOf 0 m Settle (pos flag) n
  -- each tile stands once in `held` and is a tile of the plan, and each known tile is held
  pub single : IsSingle m.held
  pub planned : (k : ℕ) → Holds m k → k < length m.plan.tiles
  pub known : (k : ℕ) → Knows m k → Holds m k
  -- main has failed exactly where the flag is at the epoch, and a seat that saw the flag saw it there
  pub failed : (m.failed ≡ true) ↔ (flag ≡ m.epoch)
  pub seen : m.seen ≡ true → flag ≡ m.epoch
  pub separate : IsSeparate m.plan
