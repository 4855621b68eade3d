use Rattle.domain.proofs.LaunchedLaws.{launched_words}
use Rattle.domain.proofs.laws.launched_words.Goals as goal

pub returns : goal.returns
returns c = launched_words
