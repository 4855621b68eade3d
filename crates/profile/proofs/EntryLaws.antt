-- The outermost loop as `enter` enters it.
use Rattle.std.proofs.Common.{◌≡◌, ◌-◌, ◌∙◌, List, [], ◌∷◌, Option, Some, None, arith, ap}
use Rattle.std.specs.Prelude.{Result, Ok, Err}
use Rattle.nest_lang.specs.declared.tree.Head.{Head}
use Rattle.nest_lang.specs.declared.tree.Head.TheVariants.{For, While}
use Rattle.nest_lang.specs.declared.tree.Loop.{Loop}
use Rattle.nest_lang.specs.declared.state.Outer.{Outer}
use Rattle.nest_lang.specs.Lookups.{plain}
use Rattle.nest_lang.specs.Traces.{Observation, Halt, Trapped, Stopped, Over}
use Rattle.nest_lang.specs.Heads.{Yield}
use Rattle.nest_lang.specs.Turns.{entry_steps, entry_steps_of}
use Rattle.block_exec.specs.Moments.{Moment}
use Rattle.plain_interp.specs.declared.outer.Entered.{Entered}
use Rattle.plain_interp.specs.declared.outer.Entered.TheVariants as entry
use Rattle.plain_interp.specs.Entries.{IsEntry, IsEntryOf, IsEntryBy}
use Rattle.profile.specs.FirstProfiles.{position_of, entered, entered_by}

-- the position of an entry
abbrev pub position_in : Entered → Option Outer
position_in (entry.At o) = Some o
position_in (entry.Trapped trap) = None
position_in entry.Limited = None

by-yield : (yields : Option (Result Yield Halt)) (e : Entered) → IsEntryBy yields e → position_in e ≡ position_of yields
by-yield None e is = ap position_in is
by-yield (Some (Ok yield)) e is = ap position_in is
by-yield (Some (Err (Trapped trap))) e is = ap position_in is
by-yield (Some (Err (Stopped access seen expected))) e is = absurd is
by-yield (Some (Err Over)) e is = absurd is

by-head : {W : Type 0} (may : W → Observation → W → Type 0) (head : Head) (a b : Moment W) (e : Entered) → IsEntryOf may head plain a b e → position_in e ≡ entered_by head a.store a.left
by-head may (For lower upper stride) a b e is = by-yield is.0 e is.2 ∙ ap position_of is.1.value
by-head may (While condition) a b e is = ap position_in is.1

-- the position in which a loop is entered
pub entry-position : {W : Type 0} (may : W → Observation → W → Type 0) (loops : List Loop) (a b : Moment W) (e : Entered) → IsEntry may loops plain a b e → position_in e ≡ entered loops a.store a.left
unfolding entered
entry-position may [] a b e is = absurd is
entry-position may (l ∷ ls) a b e is = by-head may l.head a b e is

store-by-head : {W : Type 0} (may : W → Observation → W → Type 0) (head : Head) (a b : Moment W) (e : Entered) → IsEntryOf may head plain a b e → b.store ≡ a.store
store-by-head may (For lower upper stride) a b e is = is.1.store
store-by-head {W} may (While condition) a b e is = ap (λ (m : Moment W). m.store) is.0

-- an entry changes no word and no scalar
pub entry-store : {W : Type 0} (may : W → Observation → W → Type 0) (loops : List Loop) (a b : Moment W) (e : Entered) → IsEntry may loops plain a b e → b.store ≡ a.store
entry-store may [] a b e is = absurd is
entry-store may (l ∷ ls) a b e is = store-by-head may l.head a b e is

left-by-head : {W : Type 0} (may : W → Observation → W → Type 0) (head : Head) (a b : Moment W) (e : Entered) → IsEntryOf may head plain a b e → b.left ≡ a.left - entry_steps_of head
left-by-head may (For lower upper stride) a b e is = is.1.left
left-by-head {W} may (While condition) a b e is = let same : b.left ≡ a.left = ap (λ (m : Moment W). m.left) is.0 in omega arith

-- an entry takes the step of a head that is evaluated
pub entry-left : {W : Type 0} (may : W → Observation → W → Type 0) (loops : List Loop) (a b : Moment W) (e : Entered) → IsEntry may loops plain a b e → b.left ≡ a.left - entry_steps loops
entry-left may [] a b e is = absurd is
entry-left may (l ∷ ls) a b e is = left-by-head may l.head a b e is
