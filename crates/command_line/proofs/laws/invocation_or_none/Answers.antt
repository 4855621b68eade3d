use Rattle.command_line.proofs.InvocationLaws.{invocation_or_none}
use Rattle.command_line.proofs.laws.invocation_or_none.Goals as goal

pub returns : goal.returns
returns c = invocation_or_none
