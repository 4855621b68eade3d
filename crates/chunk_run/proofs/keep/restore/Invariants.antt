use Rattle.std.proofs.Common.{◌≡◌}
use Rattle.chunk_run.proofs.StoringBackLaws.{Restoring}
use Rattle.chunk_run.proofs.keep.restore.Given as goal

abbrev pub invariant-loop-word : goal.invariant-loop-word
invariant-loop-word l = (l.main.table ≡ l.fn.main.table) × (l.kept ≡ l.backup) × Restoring l.backup l.word-index l.fn.main.view l.main.view
