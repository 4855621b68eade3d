use Rattle.block_exec.proofs.StoredWordLaws.{changes_where_stored}
use Rattle.block_exec.proofs.laws.changes_where_stored.Goals as goal

pub returns : goal.returns
returns c = changes_where_stored
