use Rattle.std.proofs.Common.{◌≡◌, ◌<◌, ℕ, get_or, false}
use Rattle.domain.specs.Tables.{is_block, no_block}
use Rattle.domain.proofs.prediction.Prediction.rank.Given as goal

abbrev pub invariant-loop-rank : goal.invariant-loop-rank
invariant-loop-rank g l = (k : ℕ) → k < l.rank → is_block l.part l.level (get_or l.block-items k no_block) ≡ false
