use Rattle.std.proofs.Common.{◌≡◌, ◌<◌, ℕ, pos, drop, slice_index_or, FitsSigned}
use Rattle.std.specs.Int.{w64}
use Rattle.follow.specs.Hows.{scalars_differ}
use Rattle.follow.proofs.how.How.of_scalars.Given as goal

abbrev pub invariant-loop-number : goal.invariant-loop-number
invariant-loop-number g l = record {
  rest : scalars_differ (g.E.Expected.after l.expected) 0 l.scalars ≡ scalars_differ (g.E.Expected.after l.expected) l.number (drop l.number l.scalars);
  fits : (k : ℕ) → k < l.number → FitsSigned w64 (slice_index_or (g.E.Expected.after l.expected) k (pos 0));
}
