use Rattle.std.proofs.Common.{◌≡◌, ◌∙◌, ◌<◌, sym, ap, subst, pos, ℤ, ℕ, get_or, replicate, length-set, to_z, of_z, FitsSigned, rules, arith}
use Rattle.std.specs.Int.{w64, w128}
use Rattle.std.proofs.lemmas.Int.{to_z-of_z}
use Rattle.std.proofs.lemmas.List.{get_or-replicate}
use Rattle.skeletons.specs.Boxes.{AgreesAt, IsBoxOf, IsRangeOf}
use Rattle.skeletons.specs.Cells.{Cell}
use Rattle.skeletons.proofs.BoxLaws.{ranges-more, no-box, range-box, other-box, rows-box}
use Rattle.skeletons.proofs.cell_box.cell_box.Goals as goal

pub returns-then-tile_wave-from : goal.returns-then-tile_wave-from
returns-then-tile_wave-from g c =
    let w : FitsSigned w64 c.cell.inside.wave = search rules in
    let cell : Cell = record { lead = c.cell.inside.lead; wave = c.cell.inside.wave; tile = c.cell.inside.tile } in
    let from = simp to_z-of_z at c.from.ensures in
    subst (λ (x : Cell). IsBoxOf g.row.D c.args.schedule.now x (replicate g.row.D (pos 1)) (replicate g.row.D (pos 0))) c.cell.view_is
    (other-box g.row.D c.args.schedule.now c.requires.is cell (replicate g.row.D (pos 1)) (replicate g.row.D (pos 0)) c.tile_wave.result c.requires.some (no-box g.row.D)
    (get_or-replicate g.row.D 0 (pos 1) (pos 0) c.requires.some) (get_or-replicate g.row.D 0 (pos 0) (pos 0) c.requires.some) c.tile_wave.ensures
    (λ e. c.if-tile_wave-from.true (ap (of_z w128) (e ∙ sym from))))

pub loop-row-preserved : goal.loop-row-preserved
loop-row-preserved g c =
    let a : FitsSigned w64 c.row_range-low.result.0 = search rules in
    let b : FitsSigned w64 c.row_range-low.result.1 = search rules in
    let i = c.loop-row.invariant in
    let low = i.low in let high = i.high in
    let test = c.loop-row-test.true in
    simp to_z-of_z (record {
      low = length-set c.loop-row.found.lows c.loop-row.row c.row_range-low.result.0 ∙ i.low;
      high = length-set c.loop-row.found.highs c.loop-row.row c.row_range-low.result.1 ∙ i.high;
      ranges = ranges-more (λ (k : ℕ) (l h : ℤ). IsRangeOf (AgreesAt c.args.schedule.now c.args.cell.now k) l h) c.loop-row.found.lows c.loop-row.found.highs c.loop-row.row c.row_range-low.result.0 c.row_range-low.result.1
          (omega (arith, low, test)) (omega (arith, high, test)) i.ranges c.row_range-low.ensures;
    })

pub returns : goal.returns
returns g c =
    let w : FitsSigned w64 c.cell.inside.wave = search rules in
    let x : FitsSigned w128 c.tile_wave.result = search rules in
    let y : FitsSigned w128 c.from.result = search rules in
    let cell : Cell = record { lead = c.cell.inside.lead; wave = c.cell.inside.wave; tile = c.cell.inside.tile } in
    let from = simp to_z-of_z at c.from.ensures in
    let same : c.tile_wave.result ≡ c.from.result = sym (to_z-of_z w128 c.tile_wave.result x) ∙ ap (to_z w128) c.if-tile_wave-from.false ∙ to_z-of_z w128 c.from.result y in
    let past = c.loop-row-test.false in
    let i = c.loop-row.invariant in
    let ranges : (k : ℕ) → k < g.row.D → IsRangeOf (AgreesAt c.args.schedule.now cell k) (get_or c.loop-row.found.lows k (pos 0)) (get_or c.loop-row.found.highs k (pos 0)) =
    subst (λ (v : Cell). (k : ℕ) → k < g.row.D → IsRangeOf (AgreesAt c.args.schedule.now v k) (get_or c.loop-row.found.lows k (pos 0)) (get_or c.loop-row.found.highs k (pos 0))) (sym c.cell.view_is) (λ k h. i.ranges k (omega (arith, h, past))) in
    subst (λ (v : Cell). IsBoxOf g.row.D c.args.schedule.now v c.loop-row.found.lows c.loop-row.found.highs) c.cell.view_is
    (rows-box g.row.D c.args.schedule.now c.requires.is cell c.loop-row.found.lows c.loop-row.found.highs c.tile_wave.result (range-box g.row.D c.args.schedule.now cell c.loop-row.found.lows c.loop-row.found.highs i.low i.high ranges)
    c.cell.told c.cell.told2 ranges c.tile_wave.ensures (same ∙ from))
