use Rattle.std.proofs.Common.{◌∙◌, sym}
use Rattle.transform.proofs.LineLaws.{place-product}
use Rattle.transform.proofs.laws.places_tell_points.Goals as goal

pub returns : goal.returns
returns c = λ n s first second is h k e. is.one first second h k (sym (place-product s first) ∙ e ∙ place-product s second)
