use Rattle.block_exec.proofs.InstanceNear.{instances-near}
use Rattle.block_exec.proofs.laws.instances_depend_where_loaded.Goals as goal

pub returns : goal.returns
returns c = instances-near
