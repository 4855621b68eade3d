use Rattle.std.proofs.Common.{◌≡◌, ◌∙◌, sym, length, arith}
use Rattle.transform.proofs.LineLaws.{IsSchedule-made, map-lines_of}
use Rattle.transform.proofs.schedule.Schedule.matrix.Goals as goal

pub returns-clause-value : goal.returns-clause-value
returns-clause-value g c =
    let rows = c.self.inside.matrix.rows in
    let sizes = c.self.inside.size in
    let marks = c.self.inside.parallel in
    let many = c.self.invariant.many in
    let told = c.self.told in
    let told2 = c.self.told2 in
    let first : length sizes ≡ length rows = omega (arith, many, told, told2) in
    let second : length marks ≡ length rows = omega (arith, many, told, told2) in
    rw (← c.self.view_is) (c.matrix.ensures.value ∙ sym (map-lines_of rows sizes marks first second))

pub returns-clause-schedule : goal.returns-clause-schedule
returns-clause-schedule g c =
    let many = c.self.invariant.many in
    let told = c.self.told in
    let told2 = c.self.told2 in
    rw (← c.self.view_is)
    (IsSchedule-made g.row.D c.self.inside.matrix.rows c.self.inside.matrix.columns c.self.inside.seq c.self.inside.size c.self.inside.parallel c.matrix.ensures.inverse c.self.invariant.small c.self.invariant.leads c.self.invariant.some c.self.invariant.limit (omega (arith, told, told2)) (omega (arith, told, told2)))
