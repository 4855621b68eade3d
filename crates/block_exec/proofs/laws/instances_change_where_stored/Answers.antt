use Rattle.block_exec.proofs.InstanceNear.{instances-kept}
use Rattle.block_exec.proofs.laws.instances_change_where_stored.Goals as goal

pub returns : goal.returns
returns c = instances-kept
