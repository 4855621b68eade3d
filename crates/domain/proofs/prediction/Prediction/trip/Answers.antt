use Rattle.std.proofs.Common.{◌≡◌, ◌∙◌, sym, ap, ◌<◌, Some, None, length, arith, rules, FitsSigned}
use Rattle.std.specs.Int.{w128}
use Rattle.std.proofs.lemmas.Int.{to_z-of_z}
use Rattle.affine.specs.Forms.{value_at}
use Rattle.domain.specs.Tables.{Table, Level, level_at}
use Rattle.domain.proofs.PointLaws.{trip-some, trip-none}
use Rattle.domain.proofs.TableLaws.{level_at-is}
use Rattle.domain.proofs.prediction.Prediction.trip.Goals as goal

pub returns-in-Some : goal.returns-in-Some
returns-in-Some g c =
    let r : FitsSigned w128 c.at.result = search rules in
    let room : c.args.around < length c.self.inside.levels.items = let deep = c.self.invariant.deep in omega arith in
    let is : level_at c.args.self.now c.args.around ≡ c.index.result.now = ap (λ (t : Table). level_at t c.args.around) (sym c.self.view_is) ∙ level_at-is c.self.inside.levels.items c.args.around c.index.result.now room c.index.ensures in
    let has : (level_at c.args.self.now c.args.around).trip ≡ Some c.in-Some.form = ap (λ (l : Level). l.trip) (is ∙ sym c.behind-self.view_is) ∙ c.in-Some.is in
    simp to_z-of_z (c.at.ensures ∙ ap (value_at c.in-Some.form) c.cut.ensures ∙ sym (trip-some c.args.self.now c.args.around c.in-Some.form c.args.at.now has))

pub returns-in-None : goal.returns-in-None
returns-in-None g c =
    let room : c.args.around < length c.self.inside.levels.items = let deep = c.self.invariant.deep in omega arith in
    let is : level_at c.args.self.now c.args.around ≡ c.index.result.now = ap (λ (t : Table). level_at t c.args.around) (sym c.self.view_is) ∙ level_at-is c.self.inside.levels.items c.args.around c.index.result.now room c.index.ensures in
    let has : (level_at c.args.self.now c.args.around).trip ≡ None = ap (λ (l : Level). l.trip) (is ∙ sym c.behind-self.view_is) ∙ c.in-None.is in
    sym (trip-none c.args.self.now c.args.around c.args.at.now has)
