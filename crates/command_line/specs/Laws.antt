-- What holds of invocations.
use Rattle.std.specs.Prelude.{◌≡◌, ◌⊎◌, List}
use Rattle.clap.specs.Words.{Text}
use Rattle.command_line.specs.declared.invocation.Invocation.{Invocation}
use Rattle.command_line.specs.Invocations.{IsInvocation, IsNoInvocation}

-- arguments are at most one invocation
abbrev pub OneInvocation : Type 0
OneInvocation = (words : List Text) (one other : Invocation) → IsInvocation words one → IsInvocation words other → one ≡ other

-- arguments are an invocation, or they are none
abbrev pub InvocationOrNone : Type 0
InvocationOrNone = (words : List Text) → ((invocation : Invocation) × IsInvocation words invocation) ⊎ IsNoInvocation words
