use Rattle.block_exec.proofs.AlikeStores.{depends_where_loaded}
use Rattle.block_exec.proofs.laws.depends_where_loaded.Goals as goal

pub returns : goal.returns
returns c = depends_where_loaded
