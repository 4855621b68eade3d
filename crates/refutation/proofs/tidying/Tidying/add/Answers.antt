use Rattle.std.proofs.Common.{◌≡◌, List, sym, subst}
use Rattle.std.specs.Prelude.{OnOk}
use Rattle.affine.specs.declared.row.Row.{Row}
use Rattle.fourier_motzkin.proofs.SetLaws.{with_row-nothing, with_row-tells}
use Rattle.refutation.proofs.tidying.Tidying.add.Goals as goal

pub returns-then-says_nothing : goal.returns-then-says_nothing
returns-then-says_nothing c = sym (with_row-nothing c.args.row.now c.normal-row.result c.args.self.now c.says_nothing.result c.normal-row.ensures c.says_nothing.ensures c.if-says_nothing.true)

pub returns : goal.returns
returns c =
    let is = with_row-tells c.args.row.now c.normal-row.result c.args.self.now c.says_nothing.result c.normal-row.ensures c.says_nothing.ensures c.if-says_nothing.false in
    subst (λ (set : List Row). OnOk c.place.result (c.place.new.self ≡ set)) (sym is) c.place.ensures
