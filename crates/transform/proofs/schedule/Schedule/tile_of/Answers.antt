use Rattle.std.proofs.Common.{◌≡◌, ◌∙◌, ◌<◌, pos, ap, length, get_or, FitsSigned, rules, arith}
use Rattle.std.specs.Int.{w128, int_div_euclid}
use Rattle.std.proofs.Math.ListN.{length-set}
use Rattle.std.proofs.lemmas.Int.{to_z-of_z}
use Rattle.transform.specs.Scripts.{schedule_from}
use Rattle.transform.proofs.LineLaws.{length-lines_of, set-kept, set-more, tile_along-lines_of, wide-tile-is}
use Rattle.transform.proofs.schedule.Schedule.tile_of.Goals as goal

pub loop-row-preserved : goal.loop-row-preserved
loop-row-preserved g c =
    let fits : FitsSigned w128 c.floor.result = search rules in
    let number : FitsSigned w128 (get_or c.place_of-place.result c.loop-row.row (pos 0)) = search rules in
    let before = c.loop-row.invariant in
    let inside : c.loop-row.row < length c.loop-row.tile = omega (arith, before.long) in
    let is = simp to_z-of_z at c.floor.ensures.value in
    simp to_z-of_z (record {
      long = length-set c.loop-row.tile c.loop-row.row c.floor.result ∙ before.long;
      zeros = λ k h. set-kept c.loop-row.tile c.loop-row.row c.floor.result (pos 0) k (omega arith) (before.zeros k h);
      values = set-more c.loop-row.tile c.loop-row.row c.floor.result c.self.inside.seq (λ k. int_div_euclid (get_or c.place_of-place.result k (pos 0)) (pos (get_or c.self.inside.size k 0))) inside is before.values;
    })

pub returns : goal.returns
returns g c =
    let rows = c.self.inside.matrix.rows in
    let sizes = c.self.inside.size in
    let marks = c.self.inside.parallel in
    let many = c.self.invariant.many in
    let told = c.self.told in
    let told2 = c.self.told2 in
    let first : length sizes ≡ length rows = omega (arith, many, told, told2) in
    let second : length marks ≡ length rows = omega (arith, many, told, told2) in
    let s = schedule_from (record { rows = rows; seq = c.self.inside.seq; sizes = sizes; parallel = marks }) in
    let lines = length-lines_of rows sizes marks first second in
    let before = c.loop-row.invariant in
    rw (← c.self.view_is)
    (wide-tile-is s c.args.point.now c.loop-row.tile (omega (arith, lines, many, c.self.invariant.leads)) (omega (arith, lines, many, before.long)) before.zeros
    (λ k from below.
    let under : k < length rows = omega (arith, lines, below) in
    let still : k < c.loop-row.row = omega arith in
    before.values k from still
    ∙ ap (λ l. int_div_euclid (get_or l k (pos 0)) (pos (get_or sizes k 0))) (rw (← c.self.view_is) at c.place_of-place.ensures.value)
    ∙ tile_along-lines_of c.args.point.now rows c.self.inside.seq sizes marks k first second under))
