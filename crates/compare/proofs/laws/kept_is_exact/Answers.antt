use Rattle.compare.proofs.KeptLaws.{kept-is-exact, runs-show-values}
use Rattle.compare.proofs.laws.kept_is_exact.Goals as goal

pub returns : goal.returns
returns c = record { values = runs-show-values; exact = kept-is-exact }
