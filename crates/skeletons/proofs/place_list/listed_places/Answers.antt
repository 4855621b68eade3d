use Rattle.std.proofs.Common.{◌∙◌, ◌≤◌, length, ap, sym, arith}
use Rattle.domain.specs.Instances.{padded}
use Rattle.skeletons.proofs.BoxLaws.{length-place}
use Rattle.skeletons.proofs.SortedPointLaws.{as-long}
use Rattle.skeletons.proofs.place_list.listed_places.Goals as goal

pub returns-clause-is : goal.returns-clause-is
returns-clause-is g c =
    let few : g.row.D ≤ 6 = (let f = c.requires.few in omega (arith, f)) in
    record {
      some = c.requires.some;
      few = few;
      long = as-long g.row.D c.in_order.result.items (λ z h.
          let p = (c.in_ok-walked.ensures z).0 ((c.in_order.ensures.has z).0 h) in
          ap length (sym p.there) ∙ length-place g.row.D c.args.schedule.now c.requires.schedule (padded c.args.scope.now.pred.now p.at));
      ordered = c.in_order.ensures.ordered;
    }

pub returns-clause-finds : goal.returns-clause-finds
returns-clause-finds g c = λ z. (
  λ h. (c.in_ok-walked.ensures z).0 ((c.in_order.ensures.has z).0 h),
  λ p. (c.in_order.ensures.has z).1 ((c.in_ok-walked.ensures z).1 p),
)
