use Rattle.std.proofs.Common.{rules, pos, negsuc, [], ◌∷◌, refl}
use Rattle.std.specs.Fmt.{digits}
use Rattle.report.specs.Examples.{word_run}
use Rattle.report.proofs.laws.outcome_examples.Goals as goal

pub returns : goal.returns
unfolding digits
returns c = record {
  outside = (word_run 0 1 (pos 5) ∷ [], search rules, refl);
  below_zero = (word_run 1 1 (negsuc 11) ∷ [], search rules, refl);
  nothing = ([], search rules, refl);
}
