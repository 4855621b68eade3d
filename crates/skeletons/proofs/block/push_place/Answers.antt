use Rattle.std.proofs.Common.{◌∙◌, ap, subst, ℤ, ◌≤ℤ◌, List, [], ◌∷◌, ◌++◌}
use Rattle.std.specs.Prelude.{◌↔◌}
use Rattle.affine.specs.Forms.{Affine, value_at}
use Rattle.affine.specs.Inverses.{across}
use Rattle.affine.specs.Rows.{Meets}
use Rattle.affine.specs.declared.row.Row.{Row}
use Rattle.domain.specs.Instances.{counter}
use Rattle.skeletons.proofs.ScanLaws.{place-rows, least-value, greatest-value}
use Rattle.skeletons.proofs.block.push_place.Goals as goal

pub returns : goal.returns
returns g c =
    let t = c.args.scope.now.pred.now in
    let b = c.args.scope.now.block.now in
    let columns = c.args.scope.now.columns.now in
    let items = c.in_ok-push-4.ensures.items
    ∙ ap (λ (xs : List Row). xs ++ c.box_below.result ∷ []) (c.in_ok-push-3.ensures.items
    ∙ ap (λ (xs : List Row). xs ++ c.box_above.result ∷ []) (c.in_ok-push-2.ensures.items
    ∙ ap (λ (xs : List Row). xs ++ c.below.result ∷ []) c.in_ok-push.ensures.items)) in
    place-rows g.row.D t c.args.scope.now.chunk b columns c.args.place _ _ c.above.result c.below.result c.box_above.result c.box_below.result c.requires.deep c.requires.rows
    (record {
      over-a = c.above.ensures.over;
      over-b = c.below.ensures.over;
      over-c = c.box_above.ensures.over;
      over-d = c.box_below.ensures.over;
      within-a = c.above.ensures.within;
      within-b = c.below.ensures.within;
      within-c = c.box_above.ensures.within;
      within-d = c.box_below.ensures.within;
      meets-a = λ z long. subst (λ (v : ℤ). Meets z c.above.result ↔ (v ≤ℤ counter (across g.row.D columns z) c.args.place))
          (ap (λ (s : Affine). value_at s (across g.row.D columns z)) c.least-low.ensures.value ∙ least-value t c.args.scope.now.chunk b c.args.place (across g.row.D columns z)) (c.above.ensures.meets z long);
      meets-b = λ z long. subst (λ (v : ℤ). Meets z c.below.result ↔ (counter (across g.row.D columns z) c.args.place ≤ℤ v))
          (ap (λ (s : Affine). value_at s (across g.row.D columns z)) c.greatest-high.ensures.value ∙ greatest-value t c.args.scope.now.chunk b c.args.place (across g.row.D columns z)) (c.below.ensures.meets z long);
      meets-c = c.box_above.ensures.meets;
      meets-d = c.box_below.ensures.meets;
      alone-c = c.box_above.ensures.alone;
      alone-d = c.box_below.ensures.alone;
      side-c = c.box_above.ensures.side;
      side-d = c.box_below.ensures.side;
    })
    items
