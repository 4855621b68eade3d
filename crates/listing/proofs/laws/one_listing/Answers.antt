use Rattle.listing.proofs.OneListing.{one-listing}
use Rattle.listing.proofs.laws.one_listing.Goals as goal

pub returns : goal.returns
returns c = one-listing
