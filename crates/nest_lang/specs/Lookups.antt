-- Look-ups: which word an access finds, and when it is refused.
use Rattle.std.specs.Prelude.{ℕ, ℤ, ◌+ℤ◌, int_le, List, Option, Some, None, Result, Ok, Err, Bool, false, not, ◌&&◌, if◌then◌else◌}
use Rattle.nest_lang.specs.declared.observe.Stop.{Stop}
use Rattle.nest_lang.specs.declared.observe.Stop.TheVariants.{Outside, Unexpected}
use Rattle.nest_lang.specs.Stores.{word_at}

-- the addresses from line + low to line + high
pub record Interval : Type 0 where
  pub line : ℤ
  pub low : ℤ
  pub high : ℤ

-- what is expected of the addresses of a block: whether they are verified, and the interval of each
-- load and of each store, by access number, where there is one
pub record Expectation : Type 0 where
  pub verifies : Bool
  pub loads : ℕ → Option Interval
  pub stores : ℕ → Option Interval

-- the plain meaning verifies nothing
abbrev pub plain : Expectation
plain = record { verifies = false; loads = λ access. None; stores = λ access. None }

-- the address lies in the expected interval
abbrev pub lies_in : Option Interval → ℤ → Bool
lies_in None address = false
lies_in (Some i) address = int_le (i.line +ℤ i.low) address && int_le address (i.line +ℤ i.high)

abbrev pub line_of : Option Interval → Option ℤ
line_of None = None
line_of (Some i) = Some i.line

abbrev pub word_or_outside : ℤ → Option ℤ → Result ℤ Stop
word_or_outside address None = Err (Outside address)
word_or_outside address (Some word) = Ok word

-- the word at an address: refused as unexpected where it is verified and lies outside of what is
-- expected, and else refused as outside where it is no word
unfoldable pub look : Bool → Option Interval → List ℤ → ℤ → Result ℤ Stop
look verifies expected memory address =
    if verifies && not (lies_in expected address) then Err (Unexpected address (line_of expected)) else word_or_outside address (word_at memory address)

-- the answer of a load and of a store, by their access numbers; a store finds the word that it replaces
abbrev pub look_load : Expectation → List ℤ → ℕ → ℤ → Result ℤ Stop
look_load x memory access address = look x.verifies (x.loads access) memory address

abbrev pub look_store : Expectation → List ℤ → ℕ → ℤ → Result ℤ Stop
look_store x memory access address = look x.verifies (x.stores access) memory address
