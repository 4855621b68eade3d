-- First profiles: what the first turns of a nest show.
use Rattle.std.specs.Prelude.{◌≡◌, ℕ, zero, ◌+◌, ◌-◌, pos, Bool, true, false, List, [], ◌∷◌, Option, Some, None, Result, Ok, Err}
use Rattle.nest_lang.specs.declared.tree.Head.{Head}
use Rattle.nest_lang.specs.declared.tree.Head.TheVariants.{For, While}
use Rattle.nest_lang.specs.declared.tree.Loop.{Loop}
use Rattle.nest_lang.specs.declared.tree.Part.TheVariants as part
use Rattle.nest_lang.specs.declared.state.Outer.{Outer}
use Rattle.nest_lang.specs.declared.budget.Turned.{Turned}
use Rattle.nest_lang.specs.declared.budget.Turned.TheVariants as turned
use Rattle.nest_lang.specs.Stores.{Store}
use Rattle.nest_lang.specs.Lookups.{plain}
use Rattle.nest_lang.specs.Traces.{Trace, Halt, Done, cut, seen_in}
use Rattle.nest_lang.specs.Heads.{Yield, Tested, head_of}
use Rattle.nest_lang.specs.Loops.{outside, frame_of}
use Rattle.nest_lang.specs.Turns.{turns_trace, turns_later, first_position, entry_steps, AreWhole}
use Rattle.block_exec.specs.Moments.{where_left}
use Rattle.profile.specs.Sampled.{observations_in}
use Rattle.profile.specs.declared.first_turns.FirstProfile.{FirstProfile}
use Rattle.profile.specs.declared.first_turns.FirstProfile.TheVariants.{Missing, Short, Whole}

-- ---- the outermost loop is entered

-- the position before the first turn, where a head was evaluated and yields something
abbrev pub position_of : Option (Result Yield Halt) → Option Outer
position_of None = None
position_of (Some (Err halt)) = None
position_of (Some (Ok yield)) = Some (first_position yield)

-- with so many steps left: the head of a `for` is evaluated, and that of a `while` isn't before its first turn
abbrev pub entered_by : Head → Store → ℕ → Option Outer
entered_by (For lower upper stride) s left = position_of (where_left left (head_of (frame_of plain part.Head 1 outside) (For lower upper stride) s).value)
entered_by (While condition) s left = Some (first_position (Tested true))

-- the position in which the outermost loop is entered; none where its head traps or is limited
unfoldable pub entered : List Loop → Store → ℕ → Option Outer
entered [] s left = None
entered (l ∷ ls) s left = entered_by l.head s left

-- ---- turns from a position on

-- so many turns of a nest from a position on, where so many steps are left: no `while` has more turns than steps
abbrev pub turns_from : List Loop → ℕ → Outer → ℕ → Store → Trace
turns_from loops left o c = turns_trace plain (left + 1) loops o c

-- there is a further turn, where so many are left of a `for`
abbrev pub has_turn : Option ℕ → Bool
has_turn (Some zero) = false
has_turn left = true

-- all turns went, and there is a further one
abbrev pub goes_on : Turned → Option ℕ → Bool
goes_on turned.Went left = has_turn left
goes_on end left = false

-- c turns from a position go through: the steps that are left suffice for all of them, and a `for` has a turn left after
-- them
pub record GoThrough (loops : List Loop) (c : ℕ) (s : Store) (left : ℕ) (o : Outer) : Type 0 where
  pub done : (cut (turns_from loops left o c s) s left 0).ending ≡ Done
  pub more : has_turn (turns_later o c).left ≡ true

-- a profile of c turns from a position, where so many steps are left: it goes through, with what these turns show; or it
-- doesn't, with the number of the whole turns that are done
abbrev pub IsProfileFrom : List Loop → ℕ → Store → ℕ → Outer → FirstProfile → Type 0
IsProfileFrom loops c s left o Missing = ⊥
IsProfileFrom loops c s left o (Short turns) =
    (GoThrough loops c s left o → ⊥) × ((done : ℕ) × (turns ≡ pos done) × AreWhole (turns_from loops left o) s left c done)
IsProfileFrom loops c s left o (Whole observations) =
    GoThrough loops c s left o × (observations ≡ observations_in (seen_in (turns_from loops left o c s) left))

-- the first profile, of c turns, of a nest from a store with so many steps left: there is none where the outermost loop
-- isn't entered or has no turn; else it is that of the turns from the position in which it is entered
abbrev pub IsFirstProfile : List Loop → ℕ → Store → ℕ → FirstProfile → Type 0
IsFirstProfile loops c s left Missing = (o : Outer) → entered loops s left ≡ Some o → has_turn o.left ≡ false
IsFirstProfile loops c s left profile =
    (o : Outer) × (entered loops s left ≡ Some o) × (has_turn o.left ≡ true) × IsProfileFrom loops c s (left - entry_steps loops) o profile
