use Rattle.std.proofs.Common.{ℕ, ◌+◌, arith}
use Rattle.domain.specs.declared.prediction.What.{What}
use Rattle.domain.specs.declared.prediction.What.TheVariants.{Address}
use Rattle.domain.specs.Tables.{block_at}
use Rattle.profile.specs.Data.{tube_in}
use Rattle.listing.specs.Lists.{form_if_any}
use Rattle.listing.proofs.GrowingListLaws.{numbered-more}
use Rattle.listing.proofs.forms.Site.list_addresses.Goals as goal

pub loop-before-preserved : goal.loop-before-preserved
loop-before-preserved g c =
    let site = c.args.self in
    let t = c.args.pred.now in
    numbered-more (λ (what : What). form_if_any site.block what (tube_in t (block_at t site.rank) what)) (λ (n : ℕ). Address n) 1 c.loop-before.before (c.loop-before.before + 1) c.args.lines.now.items c.loop-before.lines.items c.list_datum.new.lines.items (omega arith) c.loop-before.invariant c.in_ok-list_datum.ensures
