use Rattle.std.proofs.Common.{ap, ◌∙◌}
use Rattle.std.specs.Prelude.{None}
use Rattle.level_walk.specs.Listings.{after_head, listed_in}
use Rattle.level_walk.proofs.ListLaws.{differ-from, differ-in, found-long, next-head}
use Rattle.level_walk.proofs.listings.started_listing.Goals as goal

pub with_head-requires : goal.with_head-requires
with_head-requires c = found-long c.args.variables c.args.lows.now c.args.highs.now c.args.points.now None c.least.result c.requires.listing c.least.ensures

pub returns-clause-left : goal.returns-clause-left
returns-clause-left c =
    ap (λ o. after_head o (listed_in c.args.lows.now c.args.highs.now c.args.points.now)) c.with_head.ensures.head
    ∙ next-head None (listed_in c.args.lows.now c.args.highs.now c.args.points.now) c.least.result (differ-in c.args.lows.now c.args.highs.now c.args.points.now (differ-from _ c.requires.listing.ordered)) c.least.ensures
