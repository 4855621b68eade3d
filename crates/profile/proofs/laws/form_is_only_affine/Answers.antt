use Rattle.profile.proofs.FitLaws.{form-is-only-affine}
use Rattle.profile.proofs.laws.form_is_only_affine.Goals as goal

pub returns : goal.returns
returns c = form-is-only-affine
