use Rattle.std.proofs.Common.{◌≡◌, take}
use Rattle.shared_words.specs.Memories.{signed}
use Rattle.tiles.specs.Stripes.{addresses_of_all}
use Rattle.chunk_run.specs.Backups.{words_at}
use Rattle.chunk_run.proofs.keep.take.Given as goal

abbrev pub invariant-loop-stripe : goal.invariant-loop-stripe
invariant-loop-stripe l = (l.main ≡ l.fn.main) × (l.kept.items ≡ words_at (signed l.fn.main.view.base) (addresses_of_all (take l.stripe-index l.stripes)))
