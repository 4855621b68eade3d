use Rattle.std.proofs.Common.{◌∙◌, ◌<◌, ap, pos, ◌+ℤ◌, get_or, FitsSigned, rules, to_z, Bool, arith}
use Rattle.std.specs.Prelude.{if◌then◌else◌}
use Rattle.std.specs.Int.{w64, w128}
use Rattle.std.proofs.lemmas.Int.{fits_signed_from_abs, to_z-of_z}
use Rattle.plain_lemmas.proofs.IntegerLaws.{unsigned_abs-add}
use Rattle.skeletons.proofs.BoxLaws.{wave-more, wave-done}
use Rattle.skeletons.proofs.cell_box.tile_wave.Goals as goal

pub overflow_add-wave : goal.overflow_add-wave
overflow_add-wave g c =
    let share : FitsSigned w128 c.share-wave.result = search rules in
    let size = c.share-wave.ensures.size in
    let both = unsigned_abs-add (to_z w128 c.loop-row.wave-bits) c.share-wave.result in
    let few : c.loop-row.row < 7 = omega (arith, c.requires.few) in
    simp to_z-of_z (fits_signed_from_abs w128 _ (omega (arith, both, size, c.loop-row.invariant.size, few)))

pub loop-row-preserved : goal.loop-row-preserved
loop-row-preserved g c =
    let share : FitsSigned w128 c.share-wave.result = search rules in
    let number : FitsSigned w64 (get_or c.args.tile.now c.loop-row.row (pos 0)) = search rules in
    let size = c.share-wave.ensures.size in
    let both = unsigned_abs-add (to_z w128 c.loop-row.wave-bits) c.share-wave.result in
    let few : c.loop-row.row < 7 = omega (arith, c.requires.few) in
    let value = simp to_z-of_z at c.share-wave.ensures.value in
    let fits : FitsSigned w128 (to_z w128 c.loop-row.wave-bits +ℤ c.share-wave.result) = fits_signed_from_abs w128 _ (omega (arith, both, size, c.loop-row.invariant.size, few)) in
    simp to_z-of_z (record {
      size = omega (arith, both, size, c.loop-row.invariant.size);
      from = let f = c.loop-row.invariant.from in omega (arith, f);
      sum = λ p e. wave-more g.row.D c.args.schedule.now c.requires.is p c.args.tile.now c.loop-row.row (to_z w128 c.loop-row.wave-bits) c.share-wave.result e c.loop-row.invariant.from (omega arith) (value ∙ ap (λ (b : Bool). if b then pos 0 else get_or c.args.tile.now c.loop-row.row (pos 0)) c.is_parallel.ensures) (c.loop-row.invariant.sum p e);
    })

pub returns : goal.returns
returns g c = λ p e. wave-done g.row.D c.args.schedule.now c.requires.is p c.loop-row.row _ (omega arith) (c.loop-row.invariant.sum p e)
