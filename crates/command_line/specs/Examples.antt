-- Lists of arguments, and what each is, computed from the definition.
use Rattle.std.specs.Prelude.{ℕ, pos, [], ◌∷◌, codes}
use Rattle.command_line.specs.declared.invocation.Invocation.{Invocation}
use Rattle.command_line.specs.declared.invocation.Mode.{Mode}
use Rattle.command_line.specs.declared.invocation.Mode.TheVariants.{Plain, Run, Check, Deps, Gen}
use Rattle.command_line.specs.declared.recipe.Shape.TheVariants.{List as Linked}
use Rattle.command_line.specs.Invocations.{IsInvocation, IsNoInvocation}

-- an invocation with these numbers: workers, chunk, sample, steps
abbrev pub invocation : Mode → ℕ → ℕ → ℕ → ℕ → Invocation
invocation mode workers chunk sample steps = record {
  mode = mode;
  options = record { workers = workers; chunk = pos chunk; sample = pos sample; steps = steps };
}

-- arguments that are an invocation: without options all defaults stand; an option stands before the mode or
-- after it, as two arguments or as one; leading zeros are fine
pub record AreInvocations : Type 0 where
  pub plain : IsInvocation (codes "plain" ∷ []) (invocation Plain 4 32 4 1000000)
  pub run : IsInvocation (codes "--sample" ∷ codes "8" ∷ codes "run" ∷ codes "--chunk=64" ∷ []) (invocation Run 4 64 8 1000000)
  pub check : IsInvocation (codes "check" ∷ []) (invocation Check 4 32 4 1000000)
  pub deps : IsInvocation (codes "deps" ∷ codes "--chunk=8" ∷ []) (invocation Deps 4 8 4 1000000)
  pub gen : IsInvocation (codes "gen" ∷ codes "007" ∷ codes "--chunk" ∷ codes "8" ∷ codes "list" ∷ codes "2" ∷ []) (invocation (Gen (record { seed = 7; shape = Linked; size = 2 })) 4 8 4 1000000)
  pub steps : IsInvocation (codes "plain" ∷ codes "--steps" ∷ codes "10" ∷ []) (invocation Plain 4 32 4 10)
  pub joined_and_first : IsInvocation (codes "--steps=10" ∷ codes "plain" ∷ []) (invocation Plain 4 32 4 10)
  pub all_options : IsInvocation (codes "--workers" ∷ codes "64" ∷ codes "plain" ∷ codes "--chunk=1" ∷ codes "--sample" ∷ codes "0000000008" ∷ codes "--steps=4294967296" ∷ []) (invocation Plain 64 1 8 4294967296)
  pub ends_the_options : IsInvocation (codes "--chunk" ∷ codes "8" ∷ codes "--" ∷ codes "plain" ∷ []) (invocation Plain 4 8 4 1000000)

-- arguments that are none
pub record AreNone : Type 0 where
  pub no_word : IsNoInvocation []
  pub no_mode : IsNoInvocation (codes "--steps" ∷ codes "10" ∷ [])
  pub another_mode : IsNoInvocation (codes "runs" ∷ [])
  pub an_argument : IsNoInvocation (codes "plain" ∷ codes "x" ∷ [])
  pub no_size : IsNoInvocation (codes "gen" ∷ codes "0" ∷ codes "copy" ∷ [])
  pub a_size_too_large : IsNoInvocation (codes "gen" ∷ codes "0" ∷ codes "copy" ∷ codes "257" ∷ [])
  pub given_twice : IsNoInvocation (codes "plain" ∷ codes "--steps" ∷ codes "10" ∷ codes "--steps" ∷ codes "11" ∷ [])
  pub no_value : IsNoInvocation (codes "plain" ∷ codes "--steps" ∷ [])
  pub empty_value : IsNoInvocation (codes "plain" ∷ codes "--steps=" ∷ [])
  pub shortened : IsNoInvocation (codes "plain" ∷ codes "--step" ∷ codes "10" ∷ [])
  pub signed : IsNoInvocation (codes "plain" ∷ codes "--steps" ∷ codes "-5" ∷ [])
  pub plus : IsNoInvocation (codes "plain" ∷ codes "--steps" ∷ codes "+5" ∷ [])
  pub out_of_range : IsNoInvocation (codes "plain" ∷ codes "--workers" ∷ codes "65" ∷ [])
  pub eleven_digits : IsNoInvocation (codes "plain" ∷ codes "--steps" ∷ codes "00000000010" ∷ [])
  pub help : IsNoInvocation (codes "--help" ∷ [])
  pub short_help : IsNoInvocation (codes "plain" ∷ codes "-h" ∷ [])
  pub version : IsNoInvocation (codes "--version" ∷ [])
  pub after_the_options : IsNoInvocation (codes "plain" ∷ codes "--" ∷ codes "--steps" ∷ codes "10" ∷ [])
