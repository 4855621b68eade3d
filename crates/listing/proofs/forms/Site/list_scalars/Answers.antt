use Rattle.std.proofs.Common.{ℕ, arith}
use Rattle.domain.specs.declared.prediction.What.{What}
use Rattle.domain.specs.declared.prediction.What.TheVariants.{Scalar}
use Rattle.domain.specs.Tables.{block_at}
use Rattle.profile.specs.Data.{tube_in}
use Rattle.listing.specs.Lists.{form_if_any}
use Rattle.listing.proofs.GrowingListLaws.{numbered-more}
use Rattle.listing.proofs.forms.Site.list_scalars.Goals as goal

pub loop-number-preserved : goal.loop-number-preserved
loop-number-preserved g c =
    let site = c.args.self in
    let t = c.args.pred.now in
    numbered-more (λ (what : What). form_if_any site.block what (tube_in t (block_at t site.rank) what)) (λ (n : ℕ). Scalar n) 0 c.loop-number.number c.loop-number.number c.args.lines.now.items c.loop-number.lines.items c.list_datum.new.lines.items (omega arith) c.loop-number.invariant c.in_ok-list_datum.ensures
