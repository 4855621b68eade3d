use Rattle.std.proofs.Common.{◌∙◌, ap, ap₂, ◌++◌, map, List, FitsSigned, w64, lit≤, rules}
use Rattle.std.proofs.lemmas.Int.{to_z-of_z}
use Rattle.std.proofs.lemmas.Result.{on_ok_weaker}
use Rattle.affine.specs.declared.row.Row.{Row}
use Rattle.domain.specs.Tables.{Access}
use Rattle.dependence.specs.Comparisons.{row_for}
use Rattle.dependence.specs.Systems.{meeting}
use Rattle.dependence.proofs.AddedLaws.{meeting-is, narrow-x, narrow-y, two-more, wider}
use Rattle.dependence.proofs.rows.RowList.meeting.Goals as goal

pub at_most-requires : goal.at_most-requires
at_most-requires g c = (search rules, (c.requires.few, (c.requires.x, (c.requires.y, (narrow-x _ c.shifted.ensures.short, narrow-y _ c.shifted-2.ensures.short)))))

pub shifted-requires-3 : goal.shifted-requires-3
shifted-requires-3 g c = (search rules, wider _ _ _ (lit≤ tt) c.form_or_zero-y.ensures.short)

pub shifted-requires-4 : goal.shifted-requires-4
shifted-requires-4 g c = (search rules, wider _ _ _ (lit≤ tt) c.form_or_zero-x.ensures.short)

pub at_most-requires-2 : goal.at_most-requires-2
at_most-requires-2 g c = (search rules, (c.requires.few, (c.requires.x, (c.requires.y, (narrow-y _ c.shifted-3.ensures.short, narrow-x _ c.shifted-4.ensures.short)))))

pub returns : goal.returns
returns g c =
    let al : FitsSigned w64 c.a.inside.low = search rules in
    let ah : FitsSigned w64 c.a.inside.high = search rules in
    let bl : FitsSigned w64 c.b.inside.low = search rules in
    let bh : FitsSigned w64 c.b.inside.high = search rules in
    let a : Access = record { stores = c.a.inside.stores; line = c.a.inside.line; low = c.a.inside.low; high = c.a.inside.high } in
    let b : Access = record { stores = c.b.inside.stores; line = c.b.inside.line; low = c.b.inside.low; high = c.b.inside.high } in
    let h = row_for c.args.over.x c.args.over.y in
    on_ok_weaker c.at_most-2.result
    (λ last. two-more _ _ _ _ _ c.in_ok-at_most.ensures last
    ∙ ap (λ (rows : List Row). c.args.self.now.rows.items ++ rows)
    (meeting-is h g.row.D a b _ _ _ _ _ _ c.form_or_zero-x.ensures.value c.form_or_zero-y.ensures.value (simp to_z-of_z at c.shifted.ensures.value) (simp to_z-of_z at c.shifted-2.ensures.value) (simp to_z-of_z at c.shifted-3.ensures.value) (simp to_z-of_z at c.shifted-4.ensures.value))
    ∙ ap₂ (λ (p q : Access). c.args.self.now.rows.items ++ map h (meeting g.row.D p q)) c.a.view_is c.b.view_is)
    c.at_most-2.ensures
