use Rattle.std.proofs.Common.{rules, ◌≡◌, true}
use Rattle.std.specs.Prelude.{is_some}
use Rattle.level_walk.specs.Listings.{items_of}
use Rattle.level_walk.specs.States.{head_of}
use Rattle.level_walk.proofs.ListLaws.{found-long, moved-head}
use Rattle.level_walk.proofs.listings.moved_listing.Goals as goal

pub with_head-requires : goal.with_head-requires
with_head-requires c = found-long c.args.variables c.args.lows.now c.args.highs.now c.args.points.now (items_of c.head-last.result) c.least.result c.requires.listing c.least.ensures

pub returns-then-is_some-clause-left : goal.returns-then-is_some-clause-left
returns-then-is_some-clause-left c =
    let some : is_some c.head-last.result ≡ true = search rules in
    moved-head c.args.lows.now c.args.highs.now c.args.variables c.args.points.now c.head-last.result c.least.result (head_of c.args.state.now) (head_of c.with_head.result) c.requires.listing some c.head-last.ensures c.with_head.ensures.head c.least.ensures
