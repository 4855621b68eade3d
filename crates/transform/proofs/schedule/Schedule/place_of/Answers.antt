use Rattle.std.proofs.Common.{◌≡◌, ◌∙◌, sym, ap, length, arith}
use Rattle.affine.specs.Matrices.{product}
use Rattle.transform.proofs.LineLaws.{map-along-lines_of}
use Rattle.transform.proofs.schedule.Schedule.place_of.Goals as goal

pub returns-clause-value : goal.returns-clause-value
returns-clause-value g c =
    let rows = c.self.inside.matrix.rows in
    let sizes = c.self.inside.size in
    let marks = c.self.inside.parallel in
    let many = c.self.invariant.many in
    let told = c.self.told in
    let told2 = c.self.told2 in
    let first : length sizes ≡ length rows = omega (arith, many, told, told2) in
    let second : length marks ≡ length rows = omega (arith, many, told, told2) in
    rw (← c.self.view_is) (c.map.ensures.value ∙ ap (λ r. product r c.args.point.now) c.matrix.ensures.value ∙ sym (map-along-lines_of c.args.point.now rows sizes marks first second))
