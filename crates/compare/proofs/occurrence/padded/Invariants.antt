use Rattle.std.proofs.Common.{◌≡◌, ◌<◌, ℕ, pos, length, get_or}
use Rattle.compare.proofs.occurrence.padded.Given as goal

abbrev pub invariant-loop-place : goal.invariant-loop-place
invariant-loop-place g l = record { size : length l.at ≡ g.row.D; same : (k : ℕ) → k < l.place → get_or l.at k (pos 0) ≡ get_or l.counters k (pos 0) }
