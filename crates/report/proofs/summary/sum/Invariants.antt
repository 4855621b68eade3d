use Rattle.report.proofs.SumLaws.{SumIs}
use Rattle.report.proofs.summary.sum.Given as goal

abbrev pub invariant-loop-word : goal.invariant-loop-word
invariant-loop-word l = SumIs l.words l.word-index l.sum
