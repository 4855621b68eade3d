use Rattle.std.proofs.Common.{length}
use Rattle.listing.proofs.files.Setting.+list.Given as goal

abbrev pub decreases-list : goal.decreases-list
decreases-list l = length l.units.now
