use Rattle.std.proofs.Common.{◌≡◌, ◌++◌, map}
use Rattle.std.specs.List.{range_with_len}
use Rattle.tiles.specs.Strips.{offset_at, run_strip, strip_of}
use Rattle.tiles.proofs.touching.push_stripes.Given as goal

abbrev pub invariant-loop-place : goal.invariant-loop-place
invariant-loop-place g l = map strip_of l.stripes.items ≡ map strip_of l.initial.stripes.items ++ map (λ k. run_strip l.run l.form (offset_at l.access k)) (range_with_len 0 l.place)
