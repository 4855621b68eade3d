use Rattle.shared_words.proofs.ViewStepLaws.{join-views}
use Rattle.shared_words.proofs.laws.join_is_its_step.Goals as goal

pub returns : goal.returns
returns c = join-views
