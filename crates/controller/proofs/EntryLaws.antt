-- The outermost loop as `enter` enters it.
use Rattle.std.proofs.Common.{◌≡◌, ◌∙◌, List, [], ◌∷◌, Option, Some, None, ap}
use Rattle.std.specs.Prelude.{Result, Ok, Err}
use Rattle.nest_lang.specs.declared.tree.Head.{Head}
use Rattle.nest_lang.specs.declared.tree.Head.TheVariants.{For, While}
use Rattle.nest_lang.specs.declared.tree.Loop.{Loop}
use Rattle.nest_lang.specs.declared.state.Outer.{Outer}
use Rattle.nest_lang.specs.Lookups.{plain}
use Rattle.nest_lang.specs.Traces.{Observation, Halt, Trapped, Stopped, Over, Finish, Halted, Limited}
use Rattle.nest_lang.specs.Heads.{Yield}
use Rattle.block_exec.specs.Moments.{Moment}
use Rattle.plain_interp.specs.declared.outer.Entered.{Entered}
use Rattle.plain_interp.specs.declared.outer.Entered.TheVariants as entered
use Rattle.plain_interp.specs.Entries.{IsEntry, IsEntryOf, IsEntryBy}
use Rattle.journeys.specs.Settings.{entry, entry_at, entry_by}

-- an entry as a position, or as how the run finishes
abbrev pub answer_in : Entered → Result Outer Finish
answer_in (entered.At o) = Ok o
answer_in (entered.Trapped trap) = Err (Halted (Trapped trap))
answer_in entered.Limited = Err Limited

by-yield : (yields : Option (Result Yield Halt)) (e : Entered) → IsEntryBy yields e → answer_in e ≡ entry_by yields
by-yield None e is = ap answer_in is
by-yield (Some (Ok yield)) e is = ap answer_in is
by-yield (Some (Err (Trapped trap))) e is = ap answer_in is
by-yield (Some (Err (Stopped access seen expected))) e is = absurd is
by-yield (Some (Err Over)) e is = absurd is

by-head : {W : Type 0} (may : W → Observation → W → Type 0) (head : Head) (a b : Moment W) (e : Entered) → IsEntryOf may head plain a b e → answer_in e ≡ entry_at head a.store a.left
by-head may (For lower upper stride) a b e is = by-yield is.0 e is.2 ∙ ap entry_by is.1.value
by-head may (While condition) a b e is = ap answer_in is.1

-- how the outermost loop is entered
pub entry-answer : {W : Type 0} (may : W → Observation → W → Type 0) (loops : List Loop) (a b : Moment W) (e : Entered) → IsEntry may loops plain a b e → answer_in e ≡ entry loops a.store a.left
unfolding entry
entry-answer may [] a b e is = absurd is
entry-answer may (l ∷ ls) a b e is = by-head may l.head a b e is
