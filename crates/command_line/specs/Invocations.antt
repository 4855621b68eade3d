-- Invocations: which arguments are one, and which one.
use Rattle.std.specs.Prelude.{◌≡◌, ℕ, ℤ, pos, List, Option, Some, None, true, codes}
use Rattle.clap.specs.Words.{Row, Text, all_of, first_of, matches_of, takes}
use Rattle.command_line.specs.declared.invocation.Invocation.{Invocation}
use Rattle.command_line.specs.declared.invocation.Options.{Options}
use Rattle.command_line.specs.declared.invocation.Mode.{Mode}
use Rattle.command_line.specs.Modes.{IsModeOf}
use Rattle.command_line.specs.Numbers.{IsNumberIn}
use Rattle.command_line.specs.Syntax.{syntax}

-- what is found has the property, or nothing is found, and nothing has it
abbrev pub Finds : {T : Type 0} → Option T → (T → Type 0) → Type 0
Finds (Some x) P = P x
Finds {T} None P = (x : T) → P x → ⊥

-- the value that was found for an option is a number in its range
pub record HasNumber (rows : List Row) (option : Text) (least most : ℕ) (number : ℤ) : Type 0 where
  pub text : Text
  pub value : first_of option rows ≡ Some text
  pub is : IsNumberIn least most text number

-- the ranges of the four options
pub record HasOptions (rows : List Row) (options : Options) : Type 0 where
  pub workers : HasNumber rows (codes "workers") 1 64 (pos options.workers)
  pub chunk : HasNumber rows (codes "chunk") 1 1024 options.chunk
  pub sample : HasNumber rows (codes "sample") 2 64 options.sample
  pub steps : HasNumber rows (codes "steps") 0 4294967296 (pos options.steps)

-- the mode that was found: MODE is its word, and ARGS are the values behind it
pub record IsFoundMode (rows : List Row) (mode : Mode) : Type 0 where
  pub word : Text
  pub value : first_of (codes "MODE") rows ≡ Some word
  pub is : IsModeOf word (all_of (codes "ARGS") rows) mode

-- what was found in the arguments is the invocation: its mode, and its options
pub record IsFoundInvocation (rows : List Row) (invocation : Invocation) : Type 0 where
  pub mode : IsFoundMode rows invocation.mode
  pub options : HasOptions rows invocation.options

-- the arguments are this invocation: `clap` takes them, and what it finds in them is the invocation
pub record IsInvocation (words : List Text) (invocation : Invocation) : Type 0 where
  pub taken : takes syntax words ≡ true
  pub found : IsFoundInvocation (matches_of syntax words) invocation

-- the arguments are no invocation
abbrev pub IsNoInvocation : List Text → Type 0
IsNoInvocation words = (invocation : Invocation) → IsInvocation words invocation → ⊥

-- the line that is written where the arguments are no invocation
abbrev pub usage_line : Text
usage_line = codes "usage: nestrun plain|run|check|deps|gen [SEED KIND SIZE] [--workers N] [--chunk N] [--sample N] [--steps N]\n"
