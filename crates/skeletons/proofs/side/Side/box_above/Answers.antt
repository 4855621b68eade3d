use Rattle.std.proofs.Common.{◌≡◌, ◌∙◌, ◌^◌, ap, sym, subst, arith, rules, pos, neg_ℤ}
use Rattle.std.proofs.lemmas.Int.{ints}
use Rattle.affine.specs.Forms.{Affine}
use Rattle.affine.specs.Rows.{row_of, coefficient}
use Rattle.affine.specs.declared.row.Row.{Row}
use Rattle.skeletons.specs.Places.{IsNarrow, less_place, turned}
use Rattle.skeletons.proofs.SideLaws.{box_above-meets, turned-narrow, less-narrow-at, turned-alone, turned-side}
use Rattle.skeletons.proofs.side.Side.box_above.Goals as goal

pub plain_row-requires : goal.plain_row-requires
plain_row-requires g c =
    let n : IsNarrow (2 ^ 41) c.turned.result = subst (IsNarrow (2 ^ 41)) (sym (c.turned.ensures ∙ ap turned c.less_place.ensures.value)) (turned-narrow (less_place c.args.place c.number-least.result) (less-narrow-at c.args.place c.number-least.result (omega (arith, c.less_place.ensures.long)) c.number-least.ensures.narrow)) in
    search (rules, n)

pub returns-clause-meets : goal.returns-clause-meets
returns-clause-meets g c = λ z long.
    box_above-meets g.row.D c.args.place c.plain_row.result _ z c.requires.inside long
    (c.plain_row.ensures.value ∙ ap (λ (s : Affine). row_of s.coef s.cst) (c.turned.ensures ∙ ap turned (c.less_place.ensures.value ∙ ap (less_place c.args.place) c.number-least.ensures.value)))

pub returns-clause-alone : goal.returns-clause-alone
returns-clause-alone g c = λ j ne.
    ap (λ (r : Row). coefficient r j) (c.plain_row.ensures.value ∙ ap (λ (s : Affine). row_of s.coef s.cst) (c.turned.ensures ∙ ap turned (c.less_place.ensures.value ∙ ap (less_place c.args.place) c.number-least.ensures.value)))
    ∙ turned-alone g.row.D c.args.place j (neg_ℤ (pos (2 ^ 59))) c.requires.inside ne

pub returns-clause-side : goal.returns-clause-side
returns-clause-side g c =
    let e : coefficient c.plain_row.result c.args.place ≡ pos 1 =
    ap (λ (r : Row). coefficient r c.args.place) (c.plain_row.ensures.value ∙ ap (λ (s : Affine). row_of s.coef s.cst) (c.turned.ensures ∙ ap turned (c.less_place.ensures.value ∙ ap (less_place c.args.place) c.number-least.ensures.value)))
    ∙ turned-side g.row.D c.args.place (neg_ℤ (pos (2 ^ 59))) c.requires.inside in
    omega (arith, ints, e)
