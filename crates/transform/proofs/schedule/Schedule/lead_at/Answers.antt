use Rattle.std.proofs.Common.{◌≡◌, ◌∙◌, pos, ap, length, get_or, arith}
use Rattle.transform.specs.Scripts.{schedule_from}
use Rattle.transform.proofs.LineLaws.{get_or-place, length-lines_of, wide-lead-is}
use Rattle.transform.proofs.schedule.Schedule.lead_at.Goals as goal

pub returns : goal.returns
returns g c =
    let rows = c.self.inside.matrix.rows in
    let sizes = c.self.inside.size in
    let marks = c.self.inside.parallel in
    let many = c.self.invariant.many in
    let told = c.self.told in
    let told2 = c.self.told2 in
    let first : length sizes ≡ length rows = omega (arith, many, told, told2) in
    let second : length marks ≡ length rows = omega (arith, many, told, told2) in
    let s = schedule_from (record { rows = rows; seq = c.self.inside.seq; sizes = sizes; parallel = marks }) in
    let lines = length-lines_of rows sizes marks first second in
    let before = c.loop-row.invariant in
    rw (← c.self.view_is)
    (λ p e. wide-lead-is s p c.loop-row.lead (omega (arith, lines, many, c.self.invariant.leads)) (omega (arith, lines, many, before.long))
    (λ k below. before.values k (omega arith) ∙ ap (λ l. get_or l k (pos 0)) e ∙ get_or-place s p k (omega (arith, lines, many, c.self.invariant.leads, below)))
    (λ k from below. before.zeros k (omega arith) (omega (arith, lines, many, below))))
