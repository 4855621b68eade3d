use Rattle.std.proofs.Common.{◌≡◌, ◌++◌, map, length, unsigned_abs}
use Rattle.std.specs.List.{range_with_len}
use Rattle.shared_words.specs.Memories.{signed}
use Rattle.tiles.specs.Stripes.{address_at}
use Rattle.chunk_run.specs.Backups.{words_at}
use Rattle.chunk_run.proofs.keep.keep.Given as goal

abbrev pub invariant-loop-k : goal.invariant-loop-k
invariant-loop-k l = (l.main ≡ l.fn.main) × (l._words ≡ length l.fn.main.view.base)
    × (l.kept.items ≡ l.fn.kept.items ++ words_at (signed l.fn.main.view.base) (map (λ k. unsigned_abs (address_at l.stripe k)) (range_with_len 0 l.k)))
