use Rattle.std.proofs.Common.{◌≡◌, sym, subst, length, arith}
use Rattle.affine.specs.Inverses.{IsInverse}
use Rattle.transform.proofs.LineLaws.{map-lines_of}
use Rattle.transform.proofs.schedule.Schedule.columns.Goals as goal

pub returns-clause-inverse : goal.returns-clause-inverse
returns-clause-inverse g c =
    let rows = c.self.inside.matrix.rows in
    let sizes = c.self.inside.size in
    let marks = c.self.inside.parallel in
    let many = c.self.invariant.many in
    let told = c.self.told in
    let told2 = c.self.told2 in
    let first : length sizes ≡ length rows = omega (arith, many, told, told2) in
    let second : length marks ≡ length rows = omega (arith, many, told, told2) in
    rw (← c.self.view_is, c.columns.ensures.value)
    (subst (λ r. IsInverse g.row.D r c.self.inside.matrix.columns) (sym (map-lines_of rows sizes marks first second)) c.columns.ensures.inverse)
