use Rattle.shared_words.proofs.ViewStepLaws.{split-views}
use Rattle.shared_words.proofs.laws.split_is_its_step.Goals as goal

pub returns : goal.returns
returns c = split-views
