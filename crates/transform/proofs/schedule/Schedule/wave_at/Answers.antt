use Rattle.std.proofs.Common.{◌≡◌, ◌<◌, pos, ◌+ℤ◌, length, get_or, FitsSigned, rules, to_z, arith}
use Rattle.std.specs.Int.{w128}
use Rattle.std.proofs.lemmas.Int.{fits_signed_from_abs, ints, to_z-of_z}
use Rattle.plain_lemmas.proofs.IntegerLaws.{unsigned_abs-add}
use Rattle.transform.proofs.LineLaws.{wave-more}
use Rattle.transform.proofs.schedule.Schedule.wave_at.Goals as goal

pub overflow_add-wave : goal.overflow_add-wave
overflow_add-wave g c =
    let share : FitsSigned w128 c.share-wave.result = search rules in
    let number : FitsSigned w128 (get_or c.args.numbers.now c.loop-row.row (pos 0)) = search rules in
    let inside : c.loop-row.row < length c.args.numbers.now = omega arith in
    let small = c.requires.small c.loop-row.row (pos 0) inside in
    let size = simp to_z-of_z at c.share-wave.ensures.size in
    let both = unsigned_abs-add (to_z w128 c.loop-row.wave-bits) c.share-wave.result in
    let few : c.loop-row.row < 7 = omega (arith, c.requires.few) in
    simp to_z-of_z (fits_signed_from_abs w128 _ (omega (arith, small, both, size, c.loop-row.invariant.size, few)))

pub loop-row-preserved : goal.loop-row-preserved
loop-row-preserved g c =
    let share : FitsSigned w128 c.share-wave.result = search rules in
    let number : FitsSigned w128 (get_or c.args.numbers.now c.loop-row.row (pos 0)) = search rules in
    let inside : c.loop-row.row < length c.args.numbers.now = omega arith in
    let small = c.requires.small c.loop-row.row (pos 0) inside in
    let size = simp to_z-of_z at c.share-wave.ensures.size in
    let both = unsigned_abs-add (to_z w128 c.loop-row.wave-bits) c.share-wave.result in
    let few : c.loop-row.row < 7 = omega (arith, c.requires.few) in
    let value = simp to_z-of_z at c.share-wave.ensures.value in
    let fits : FitsSigned w128 (to_z w128 c.loop-row.wave-bits +ℤ c.share-wave.result) = fits_signed_from_abs w128 _ (omega (arith, small, both, size, c.loop-row.invariant.size, few)) in
    let rows = c.self.inside.matrix.rows in
    let sizes = c.self.inside.size in
    let marks = c.self.inside.parallel in
    let many = c.self.invariant.many in
    let told = c.self.told in
    let told2 = c.self.told2 in
    let first : length sizes ≡ length rows = omega (arith, many, told, told2) in
    let second : length marks ≡ length rows = omega (arith, many, told, told2) in
    simp to_z-of_z (record {
      size = omega (arith, small, both, size, c.loop-row.invariant.size);
      sum = λ p e.
          let before = c.loop-row.invariant.sum p e in
          let more = wave-more p rows c.self.inside.seq sizes marks c.loop-row.row c.args.numbers.now c.share-wave.result first second (omega (arith, many)) e value in
          omega (arith, ints, before, more);
    })
