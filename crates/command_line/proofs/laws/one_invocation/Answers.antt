use Rattle.command_line.proofs.FoundWordLaws.{one_invocation}
use Rattle.command_line.proofs.laws.one_invocation.Goals as goal

pub returns : goal.returns
returns c = one_invocation
