-- Ports that verify nothing stop nothing.
use Rattle.std.proofs.Common.{◌≡◌, ℕ, ℤ, List, Option, Some, None, Err, Bool, false, arith}
use Rattle.nest_lang.specs.declared.observe.Stop.{Stop}
use Rattle.nest_lang.specs.declared.observe.Stop.TheVariants.{Outside, Unexpected}
use Rattle.nest_lang.specs.Lookups.{Interval, look, word_or_outside}
use Rattle.nest_lang.specs.Stores.{word_at}
use Rattle.nest_lang.specs.Expressions.{or_stopped}
use Rattle.block_exec.specs.declared.halt.Halt as code
use Rattle.block_exec.specs.declared.halt.Halt.TheVariants as halt
use Rattle.block_exec.specs.Halts.{halt_by, IsTrap}

-- a word is found, or there is none
outside-quiet : (address seen : ℤ) (line : Option ℤ) (found : Option ℤ) → Err (Unexpected seen line) ≡ word_or_outside address found → ⊥
outside-quiet address seen line (Some word) e = grind arith
outside-quiet address seen line None e = grind arith

look-quiet : (expected : Option Interval) (memory : List ℤ) (address seen : ℤ) (line : Option ℤ) → Err (Unexpected seen line) ≡ look false expected memory address → ⊥
unfolding look
look-quiet expected memory address seen line e = outside-quiet address seen line (word_at memory address) e

-- a look-up that verifies nothing halts by a trap alone
pub quiet-halt : (h : code.Halt) (access : ℕ) (stop : Stop) (verifies : Bool) (expected : Option Interval) (memory : List ℤ) (address : ℤ) → Err stop ≡ look verifies expected memory address → Err (halt_by h) ≡ or_stopped access (Err stop) → verifies ≡ false → IsTrap h
quiet-halt (halt.Trapped trap) access stop verifies expected memory address e g q = tt
quiet-halt (halt.Stopped number seen line) access (Outside z) verifies expected memory address e g q = grind arith
quiet-halt (halt.Stopped number seen line) access (Unexpected z other) verifies expected memory address e g q =
    let found : Err (Unexpected z other) ≡ look false expected memory address = rw q at e in
    absurd (look-quiet expected memory address z other found)

pub ruleset quiet = (quiet-halt)
