use Rattle.std.proofs.Common.{◌≡◌, drop}
use Rattle.std.specs.Prelude.{None}
use Rattle.level_walk.specs.Listed.{least_after}
use Rattle.level_walk.specs.Listings.{items_of, listed_in}
use Rattle.level_walk.proofs.listings.least.Given as goal

abbrev pub invariant-loop-point : goal.invariant-loop-point
invariant-loop-point l = least_after (items_of l.last) (items_of l.best) (listed_in l.lows l.highs (drop l.point-index l.points)) ≡ least_after (items_of l.last) None (listed_in l.lows l.highs l.points)
