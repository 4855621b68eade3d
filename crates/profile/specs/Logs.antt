-- Observations as they are kept: the counters of an observation are told by those that changed since the one before.
use Rattle.std.specs.Prelude.{◌≡◌, ◌^◌, ℕ, ℤ, pos, ◌+ℤ◌, List, [], ◌∷◌, ◌++◌, take, Option, Some, None}
use Rattle.nest_lang.specs.declared.observe.Seen.{Seen}
use Rattle.nest_lang.specs.declared.observe.Seen.TheVariants.{Start, Scalar, Address, Lower, Trip, Condition}
use Rattle.nest_lang.specs.Traces.{Observation}
use Rattle.block_exec.specs.Watches.{observed}
use Rattle.profile.specs.declared.log.Shown.{Shown}
use Rattle.profile.specs.declared.log.Item.{Item}
use Rattle.profile.specs.declared.log.Log.{Log}

-- the value that stands for a kept number: a trip is kept less 2^63, so that it fits 64 bits with a sign
abbrev pub told_value : Seen → ℤ → ℤ
told_value Start kept = kept
told_value (Scalar number) kept = kept
told_value (Address access) kept = kept
told_value Lower kept = kept
told_value Trip kept = kept +ℤ pos (2 ^ 63)
told_value Condition kept = kept

-- counters of which that at a place became another; those inside it are gone
abbrev pub turned : ℕ → ℤ → List ℤ → List ℤ
turned place counter counters = take place counters ++ counter ∷ []

-- the counters after an item
abbrev pub counters_after : List ℤ → Option Shown → ℕ → ℤ → List ℤ
counters_after counters None place counter = turned place counter counters
counters_after counters (Some shown) number kept = counters

-- the observation of an item, if it is one
abbrev pub told_by : List ℤ → Option Shown → ℕ → ℤ → List Observation
told_by counters None place counter = []
told_by counters (Some shown) number kept = observed shown.block (take number counters) shown.what (told_value shown.what kept) ∷ []

-- the counters after items
abbrev pub counters_in : List ℤ → List Item → List ℤ
counters_in counters [] = counters
counters_in counters (i ∷ is) = counters_in (counters_after counters i.shown i.level i.value) is

-- the observations that items tell, in order
abbrev pub told : List ℤ → List Item → List Observation
told counters [] = []
told counters (i ∷ is) = told_by counters i.shown i.level i.value ++ told (counters_after counters i.shown i.level i.value) is

-- the counters of a log are those after its items
abbrev pub IsInStep : Log → Type 0
IsInStep log = log.counters.items ≡ counters_in [] log.items.items
