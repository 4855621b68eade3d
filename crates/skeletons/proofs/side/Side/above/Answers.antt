use Rattle.std.proofs.Common.{◌∙◌, ◌^◌, ap, sym, subst, arith, rules}
use Rattle.affine.specs.Inverses.{across}
use Rattle.affine.specs.Forms.{Affine, value_at}
use Rattle.affine.proofs.InverseLaws.{length-across}
use Rattle.skeletons.specs.Places.{IsNarrow, less_place, turned}
use Rattle.skeletons.proofs.SideLaws.{above-meets, turned-narrow, less-narrow-at}
use Rattle.skeletons.proofs.side.Side.above.Goals as goal

pub row-requires : goal.row-requires
row-requires g c =
    let n : IsNarrow (2 ^ 41) c.turned.result = subst (IsNarrow (2 ^ 41)) (sym (c.turned.ensures ∙ ap turned c.less_place.ensures.value)) (turned-narrow (less_place c.args.place c.args.self.now) (less-narrow-at c.args.place c.args.self.now (omega (arith, c.less_place.ensures.long)) c.requires.narrow)) in
    search (rules, n)

pub returns-clause-meets : goal.returns-clause-meets
returns-clause-meets g c = λ z long.
    let l = length-across g.row.D c.args.columns.now z c.requires.square.long in
    above-meets c.args.place c.row.result c.args.self.now (across g.row.D c.args.columns.now z) z (omega (arith, c.less_place.ensures.long)) (omega (arith, l))
    (c.row.ensures.value z long ∙ ap (λ (s : Affine). value_at s (across g.row.D c.args.columns.now z)) (c.turned.ensures ∙ ap turned c.less_place.ensures.value))
