use Rattle.std.proofs.Common.{refl}
use Rattle.listing.proofs.laws.listing_examples.Goals as goal

pub returns : goal.returns
returns c = record {
  no_form = refl;
  form = refl;
  legal = refl;
  own = refl;
  standard = refl;
  version_1 = refl;
  version_2 = refl;
  missing = λ options unit. refl;
  short = λ options unit. refl;
  no_nests = λ options s. refl;
}
