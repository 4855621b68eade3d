use Rattle.compare.proofs.CompareLaws.{comparison-finds-first, turns-show-inner-trips}
use Rattle.compare.proofs.laws.comparison_finds_first.Goals as goal

pub returns : goal.returns
returns c = record { finds = comparison-finds-first; inner = turns-show-inner-trips }
