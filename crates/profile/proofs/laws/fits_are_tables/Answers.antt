use Rattle.profile.proofs.BoundsLaws.{fits-are-tables}
use Rattle.profile.proofs.laws.fits_are_tables.Goals as goal

pub returns : goal.returns
returns c = fits-are-tables
