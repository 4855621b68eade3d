use Rattle.chunk_run.proofs.CountLaws.{one-tile-counts}
use Rattle.chunk_run.proofs.laws.one_tile_counts.Goals as goal

pub returns : goal.returns
returns c = one-tile-counts
