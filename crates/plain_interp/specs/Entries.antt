-- Entries: the outermost loop before its first turn.
use Rattle.std.specs.Prelude.{◌≡◌, List, [], ◌∷◌, Option, Some, None, Result, Ok, Err, true}
use Rattle.nest_lang.specs.declared.tree.Head.{Head}
use Rattle.nest_lang.specs.declared.tree.Head.TheVariants.{For, While}
use Rattle.nest_lang.specs.declared.tree.Loop.{Loop}
use Rattle.nest_lang.specs.declared.tree.Part.TheVariants as part
use Rattle.nest_lang.specs.Lookups.{Expectation}
use Rattle.nest_lang.specs.Traces.{Observation, Halt, Trapped, Stopped, Over}
use Rattle.nest_lang.specs.Heads.{Yield, Tested}
use Rattle.nest_lang.specs.Loops.{outside, frame_of}
use Rattle.nest_lang.specs.Turns.{first_position}
use Rattle.block_exec.specs.Moments.{Moment, Evaluated}
use Rattle.plain_interp.specs.declared.outer.Entered.{Entered}
use Rattle.plain_interp.specs.declared.outer.Entered.TheVariants as entered

-- an entry by what the head yields
abbrev pub IsEntryBy : Option (Result Yield Halt) → Entered → Type 0
IsEntryBy None e = e ≡ entered.Limited
IsEntryBy (Some (Ok yield)) e = e ≡ entered.At (first_position yield)
IsEntryBy (Some (Err (Trapped trap))) e = e ≡ entered.Trapped trap
IsEntryBy (Some (Err (Stopped access seen expected))) e = ⊥
IsEntryBy (Some (Err Over)) e = ⊥

-- an entry of a loop between two moments: the head of a `for` is evaluated; that of a `while` isn't
-- before its first turn, and nothing is done
abbrev pub IsEntryOf : {W : Type 0} → (W → Observation → W → Type 0) → Head → Expectation → Moment W → Moment W → Entered → Type 0
IsEntryOf may (For lower upper stride) x a b e =
    (yields : Option (Result Yield Halt)) × Evaluated may (frame_of x part.Head 1 outside) (For lower upper stride) a b yields × IsEntryBy yields e
IsEntryOf may (While condition) x a b e = (b ≡ a) × (e ≡ entered.At (first_position (Tested true)))

abbrev pub IsEntry : {W : Type 0} → (W → Observation → W → Type 0) → List Loop → Expectation → Moment W → Moment W → Entered → Type 0
IsEntry may [] x a b e = ⊥
IsEntry may (l ∷ ls) x a b e = IsEntryOf may l.head x a b e
