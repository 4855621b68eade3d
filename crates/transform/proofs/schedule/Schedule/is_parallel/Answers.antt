use Rattle.std.proofs.Common.{◌≡◌, length, arith}
use Rattle.transform.proofs.LineLaws.{parallel-lines_of}
use Rattle.transform.proofs.schedule.Schedule.is_parallel.Goals as goal

pub returns : goal.returns
returns g c =
    let rows = c.self.inside.matrix.rows in
    let sizes = c.self.inside.size in
    let marks = c.self.inside.parallel in
    let many = c.self.invariant.many in
    let told = c.self.told in
    let told2 = c.self.told2 in
    let first : length sizes ≡ length rows = omega (arith, many, told, told2) in
    let second : length marks ≡ length rows = omega (arith, many, told, told2) in
    rw (← c.self.view_is) (parallel-lines_of rows sizes marks c.args.row first second (omega (arith, many, c.requires)))
