use Rattle.std.proofs.Common.{rules, ◌≡◌, ◌∙◌, ℕ, ℤ, List, length, sym, ap, ap₂, subst, FitsSigned, arith}
use Rattle.std.specs.Int.{w64, w128}
use Rattle.std.proofs.lemmas.Int.{to_z-of_z}
use Rattle.affine.specs.Matrices.{product}
use Rattle.domain.specs.Tables.{cut}
use Rattle.domain.specs.Instances.{counter, padded}
use Rattle.domain.proofs.PointLaws.{cut-same}
use Rattle.transform.specs.Schedules.{wave, wide_lead, wide_tile}
use Rattle.skeletons.specs.Cells.{Extent}
use Rattle.skeletons.specs.CellLists.{cell_at}
use Rattle.skeletons.proofs.BlockLaws.{length-padded}
use Rattle.skeletons.proofs.CellListLaws.{cell-is, lead-fits, lead-long, tile-fits, tile-long, wave-fits}
use Rattle.skeletons.proofs.ListLaws.{padded-fits, point-is}
use Rattle.skeletons.proofs.cell_list.cell_at.Goals as goal

uncut : (n : ℕ) (xs : List ℤ) → length xs ≡ n → cut n xs ≡ xs
uncut n xs long = cut-same n xs (λ k a b. absurd (omega (arith, long, a, b)))

pub counters_of-point-requires : goal.counters_of-point-requires
counters_of-point-requires g c =
    let f = c.args.frame.now in
    let e : Extent = record { table = f.pred.now; schedule = f.schedule.now; chunk = f.chunk } in
    let p = c.requires.place in
    let same = c.map.ensures.value ∙ ap (product f.inverse) (c.array_of-place.ensures ∙ c.as_slice.ensures.value)
    ∙ point-is g.row.D e f.inverse f.blocks.items c.requires.frame c.args.best.now.rank c.args.best.now.point.items p in
    let fits : (k : ℕ) → FitsSigned w64 (counter c.map.result k) = λ k. subst (λ (xs : List ℤ). FitsSigned w64 (counter xs k)) (sym same) (padded-fits g.row.D e f.inverse f.blocks.items c.requires.frame p.at p.predicted k) in
    search (rules, fits)

pub counters_of-requires : goal.counters_of-requires
counters_of-requires g c =
    let f = c.args.frame.now in
    let e : Extent = record { table = f.pred.now; schedule = f.schedule.now; chunk = f.chunk } in
    let is = c.requires.frame in
    let p = c.requires.place in
    let same = c.map.ensures.value ∙ ap (product f.inverse) (c.array_of-place.ensures ∙ c.as_slice.ensures.value)
    ∙ point-is g.row.D e f.inverse f.blocks.items is c.args.best.now.rank c.args.best.now.point.items p in
    let long = ap length same ∙ length-padded e.table p.at ∙ is.table.deep in
    let point = c.counters_of-point.ensures ∙ uncut g.row.D c.map.result long ∙ same in
    let lead = c.phase_of-key.ensures.lead ∙ ap (wide_lead e.schedule) point in
    let fits : (k : ℕ) → FitsSigned w64 (counter c.phase_of-key.result.lead k) = lead-fits g.row.D e f.inverse f.blocks.items is p.at p.predicted c.phase_of-key.result.lead (ap length lead ∙ lead-long g.row.D e.schedule is.schedule (padded e.table p.at)) lead in
    search (rules, fits)

pub overflow_cast-result : goal.overflow_cast-result
overflow_cast-result g c =
    let f = c.args.frame.now in
    let e : Extent = record { table = f.pred.now; schedule = f.schedule.now; chunk = f.chunk } in
    let is = c.requires.frame in
    let p = c.requires.place in
    let same = c.map.ensures.value ∙ ap (product f.inverse) (c.array_of-place.ensures ∙ c.as_slice.ensures.value)
    ∙ point-is g.row.D e f.inverse f.blocks.items is c.args.best.now.rank c.args.best.now.point.items p in
    let long = ap length same ∙ length-padded e.table p.at ∙ is.table.deep in
    let point = c.counters_of-point.ensures ∙ uncut g.row.D c.map.result long ∙ same in
    let wave-is = c.phase_of-key.ensures.wave ∙ ap (wave e.schedule) point in
    let wide : FitsSigned w128 c.phase_of-key.result.wave = search rules in
    let fits : FitsSigned w64 c.phase_of-key.result.wave = subst (FitsSigned w64) (sym wave-is) (wave-fits g.row.D e f.inverse f.blocks.items is p.at p.predicted) in
    simp to_z-of_z fits

pub counters_of-requires-2 : goal.counters_of-requires-2
counters_of-requires-2 g c =
    let f = c.args.frame.now in
    let e : Extent = record { table = f.pred.now; schedule = f.schedule.now; chunk = f.chunk } in
    let is = c.requires.frame in
    let p = c.requires.place in
    let same = c.map.ensures.value ∙ ap (product f.inverse) (c.array_of-place.ensures ∙ c.as_slice.ensures.value)
    ∙ point-is g.row.D e f.inverse f.blocks.items is c.args.best.now.rank c.args.best.now.point.items p in
    let long = ap length same ∙ length-padded e.table p.at ∙ is.table.deep in
    let point = c.counters_of-point.ensures ∙ uncut g.row.D c.map.result long ∙ same in
    let tile = c.tile_of-tile.ensures ∙ ap (wide_tile e.schedule) point in
    let fits : (k : ℕ) → FitsSigned w64 (counter c.tile_of-tile.result k) = tile-fits g.row.D e f.inverse f.blocks.items is p.at p.predicted c.tile_of-tile.result (ap length tile ∙ tile-long g.row.D e.schedule is.schedule (padded e.table p.at)) tile in
    search (rules, fits)

pub returns : goal.returns
returns g c =
    let f = c.args.frame.now in
    let e : Extent = record { table = f.pred.now; schedule = f.schedule.now; chunk = f.chunk } in
    let is = c.requires.frame in
    let p = c.requires.place in
    let same = c.map.ensures.value ∙ ap (product f.inverse) (c.array_of-place.ensures ∙ c.as_slice.ensures.value)
    ∙ point-is g.row.D e f.inverse f.blocks.items is c.args.best.now.rank c.args.best.now.point.items p in
    let long = ap length same ∙ length-padded e.table p.at ∙ is.table.deep in
    let point = c.counters_of-point.ensures ∙ uncut g.row.D c.map.result long ∙ same in
    let lead = c.phase_of-key.ensures.lead ∙ ap (wide_lead e.schedule) point in
    let tile = c.tile_of-tile.ensures ∙ ap (wide_tile e.schedule) point in
    let wave-is = c.phase_of-key.ensures.wave ∙ ap (wave e.schedule) point in
    let wide : FitsSigned w128 c.phase_of-key.result.wave = search rules in
    let fits : FitsSigned w64 c.phase_of-key.result.wave = subst (FitsSigned w64) (sym wave-is) (wave-fits g.row.D e f.inverse f.blocks.items is p.at p.predicted) in
    let leads = c.counters_of.ensures ∙ uncut g.row.D c.phase_of-key.result.lead (ap length lead ∙ lead-long g.row.D e.schedule is.schedule (padded e.table p.at)) ∙ lead in
    let tiles = c.counters_of-2.ensures ∙ uncut g.row.D c.tile_of-tile.result (ap length tile ∙ tile-long g.row.D e.schedule is.schedule (padded e.table p.at)) ∙ tile in
    let cell : record { lead = c.counters_of.result; wave = c.phase_of-key.result.wave; tile = c.counters_of-2.result } ≡ cell_at e f.inverse c.args.best.now.point.items =
    ap₂ (λ (l t : List ℤ). record { lead = l; wave = c.phase_of-key.result.wave; tile = t }) leads tiles
    ∙ ap (λ (z : ℤ). record { lead = wide_lead e.schedule (padded e.table p.at); wave = z; tile = wide_tile e.schedule (padded e.table p.at) }) wave-is
    ∙ sym (cell-is g.row.D e f.inverse f.blocks.items is c.args.best.now.rank c.args.best.now.point.items p) in
    simp to_z-of_z cell
