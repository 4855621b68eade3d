use Rattle.std.proofs.Common.{map}
use Rattle.std.specs.List.{range_with_len}
use Rattle.domain.specs.Footprints.{Gains}
use Rattle.tiles.specs.Strips.{IsWordOf, offset_at, run_strip}
use Rattle.tiles.proofs.touching.push_words.Given as goal

abbrev pub invariant-loop-place : goal.invariant-loop-place
invariant-loop-place g l = Gains (IsWordOf l.words (map (λ k. run_strip l.run l.form (offset_at l.access k)) (range_with_len 0 l.place))) l.initial.list.items l.list.items
