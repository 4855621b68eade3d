use Rattle.std.proofs.Common.{◌≡◌, take, length, map, slice_index_or, pos}
use Rattle.std.specs.List.{range_with_len}
use Rattle.profile.proofs.gather.padded.Given as goal

abbrev pub invariant-loop-place : goal.invariant-loop-place
invariant-loop-place g l = record {
  long : length l.at ≡ g.row.D;
  done : take l.place l.at ≡ map (λ k. slice_index_or l.counters k (pos 0)) (range_with_len 0 l.place);
}
