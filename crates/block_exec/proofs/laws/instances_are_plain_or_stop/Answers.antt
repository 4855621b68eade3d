use Rattle.block_exec.proofs.PlainOrStop.{instances-up}
use Rattle.block_exec.proofs.laws.instances_are_plain_or_stop.Goals as goal

pub returns : goal.returns
returns c = instances-up
