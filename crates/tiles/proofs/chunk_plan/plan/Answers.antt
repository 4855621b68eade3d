use Rattle.std.proofs.Common.{◌≡◌, ◌<◌, ◌+◌, ◌^◌, sym, ap, ◌∙◌, subst, ℕ, List, ◌++◌, map, length, arith, rules}
use Rattle.std.specs.List.{flat_map}
use Rattle.domain.specs.Tables.{IsTable}
use Rattle.transform.specs.Schedules.{IsSchedule}
use Rattle.skeletons.specs.Cells.{AreCellsOf, Extent}
use Rattle.skeletons.specs.Runs.{HasRuns, Run}
use Rattle.tiles.specs.Counts.{count_of}
use Rattle.tiles.specs.Plans.{IsPlanOf, Phase}
use Rattle.tiles.specs.Strips.{IsListOfWords, IsPlannedRun, loads_of_run, stores_of_run, strip_of}
use Rattle.plain_lemmas.specs.Lists.{Has}
use Rattle.tiles.proofs.PlanLaws.{Stands, scope-bound, scope-more, scope-of, scope-plan, scope-planned}
use Rattle.tiles.proofs.chunk_plan.plan.Goals as goal

pub tile_of_runs-requires : goal.tile_of_runs-requires
tile_of_runs-requires g c =
    let e : Extent = record { table = c.args.task.now.pred.now; schedule = c.args.schedule.now; chunk = c.args.task.now.chunk } in
    let view = c.skeleton.view_is ∙ c.in_ok-skeleton.ensures in
    let table : IsTable g.row.D e.table = subst (λ (x : Extent). IsTable g.row.D x.table) view c.skeleton.invariant.table in
    let schedule : IsSchedule g.row.D e.schedule = subst (λ (x : Extent). IsSchedule g.row.D x.schedule) view c.skeleton.invariant.schedule in
    let scope = scope-of g.row.D e c.args.words c.columns-columns.result.now c.requires.some c.requires.few table schedule c.requires.plannable c.columns-columns.ensures.inverse c.columns-columns.ensures.small c.ranges.words.fits in
    let runs : HasRuns g.row.D e c.cell-item.result c.in_ok-runs.runs.items = subst (λ (x : Extent). HasRuns g.row.D x c.cell-item.result c.in_ok-runs.runs.items) c.in_ok-skeleton.ensures c.in_ok-runs.ensures in
    let planned : (r : Run) → Has c.deref.result.now r → IsPlannedRun e.table r = λ r h. scope-planned g.row.D e c.args.words scope table.deep c.cell-item.result c.in_ok-runs.runs.items runs r (subst (λ (l : List Run). Has l r) c.deref.ensures.value h) in
    (search rules, (search rules, (c.requires.few, planned)))

pub count-requires : goal.count-requires
count-requires g c =
    let e : Extent = record { table = c.args.task.now.pred.now; schedule = c.args.schedule.now; chunk = c.args.task.now.chunk } in
    let view = c.skeleton.view_is ∙ c.in_ok-skeleton.ensures in
    let table : IsTable g.row.D e.table = subst (λ (x : Extent). IsTable g.row.D x.table) view c.skeleton.invariant.table in
    let schedule : IsSchedule g.row.D e.schedule = subst (λ (x : Extent). IsSchedule g.row.D x.schedule) view c.skeleton.invariant.schedule in
    let scope = scope-of g.row.D e c.args.words c.columns-columns.result.now c.requires.some c.requires.few table schedule c.requires.plannable c.columns-columns.ensures.inverse c.columns-columns.ensures.small c.ranges.words.fits in
    let cells : AreCellsOf e c.deref-cell-items.result.now = subst (AreCellsOf e) (sym c.deref-cell-items.ensures.value) (subst (λ (x : Extent). AreCellsOf x c.in_ok-cells.cells.items) c.in_ok-skeleton.ensures c.in_ok-cells.ensures) in
    let runs : HasRuns g.row.D e c.cell-item.result c.in_ok-runs.runs.items = subst (λ (x : Extent). HasRuns g.row.D x c.cell-item.result c.in_ok-runs.runs.items) c.in_ok-skeleton.ensures c.in_ok-runs.ensures in
    let bound = scope-bound g.row.D e c.args.words scope table.deep c.deref-cell-items.result.now c.loop-cell.cell-index c.loop-cell.groups.items c.loop-cell.stripes.items c.loop-cell.instances cells c.loop-cell.invariant c.cell-item.result c.in_ok-runs.runs.items c.loop-cell-test.true c.cell-item.is runs in
    let same : count_of c.deref-in-loop-cell.result.now ≡ count_of c.in_ok-runs.runs.items = ap count_of c.deref-in-loop-cell.ensures.value in
    let fits : count_of c.deref-in-loop-cell.result.now < 2 ^ 64 = omega (arith, bound, same) in
    (search rules, fits)

pub overflow_add-instances : goal.overflow_add-instances
overflow_add-instances g c =
    let e : Extent = record { table = c.args.task.now.pred.now; schedule = c.args.schedule.now; chunk = c.args.task.now.chunk } in
    let view = c.skeleton.view_is ∙ c.in_ok-skeleton.ensures in
    let table : IsTable g.row.D e.table = subst (λ (x : Extent). IsTable g.row.D x.table) view c.skeleton.invariant.table in
    let schedule : IsSchedule g.row.D e.schedule = subst (λ (x : Extent). IsSchedule g.row.D x.schedule) view c.skeleton.invariant.schedule in
    let scope = scope-of g.row.D e c.args.words c.columns-columns.result.now c.requires.some c.requires.few table schedule c.requires.plannable c.columns-columns.ensures.inverse c.columns-columns.ensures.small c.ranges.words.fits in
    let cells : AreCellsOf e c.deref-cell-items.result.now = subst (AreCellsOf e) (sym c.deref-cell-items.ensures.value) (subst (λ (x : Extent). AreCellsOf x c.in_ok-cells.cells.items) c.in_ok-skeleton.ensures c.in_ok-cells.ensures) in
    let runs : HasRuns g.row.D e c.cell-item.result c.in_ok-runs.runs.items = subst (λ (x : Extent). HasRuns g.row.D x c.cell-item.result c.in_ok-runs.runs.items) c.in_ok-skeleton.ensures c.in_ok-runs.ensures in
    let bound = scope-bound g.row.D e c.args.words scope table.deep c.deref-cell-items.result.now c.loop-cell.cell-index c.loop-cell.groups.items c.loop-cell.stripes.items c.loop-cell.instances cells c.loop-cell.invariant c.cell-item.result c.in_ok-runs.runs.items c.loop-cell-test.true c.cell-item.is runs in
    let same : c.count.result ≡ count_of c.in_ok-runs.runs.items = c.count.ensures ∙ ap count_of c.deref-in-loop-cell.ensures.value in
    let fits : c.loop-cell.instances + c.count.result < 2 ^ 64 = omega (arith, bound, same) in
    search rules

pub loop-cell-preserved : goal.loop-cell-preserved
loop-cell-preserved g c =
    let e : Extent = record { table = c.args.task.now.pred.now; schedule = c.args.schedule.now; chunk = c.args.task.now.chunk } in
    let view = c.skeleton.view_is ∙ c.in_ok-skeleton.ensures in
    let table : IsTable g.row.D e.table = subst (λ (x : Extent). IsTable g.row.D x.table) view c.skeleton.invariant.table in
    let schedule : IsSchedule g.row.D e.schedule = subst (λ (x : Extent). IsSchedule g.row.D x.schedule) view c.skeleton.invariant.schedule in
    let scope = scope-of g.row.D e c.args.words c.columns-columns.result.now c.requires.some c.requires.few table schedule c.requires.plannable c.columns-columns.ensures.inverse c.columns-columns.ensures.small c.ranges.words.fits in
    let cells : AreCellsOf e c.deref-cell-items.result.now = subst (AreCellsOf e) (sym c.deref-cell-items.ensures.value) (subst (λ (x : Extent). AreCellsOf x c.in_ok-cells.cells.items) c.in_ok-skeleton.ensures c.in_ok-cells.ensures) in
    let runs : HasRuns g.row.D e c.cell-item.result c.in_ok-runs.runs.items = subst (λ (x : Extent). HasRuns g.row.D x c.cell-item.result c.in_ok-runs.runs.items) c.in_ok-skeleton.ensures c.in_ok-runs.ensures in
    let same : c.count.result ≡ count_of c.in_ok-runs.runs.items = c.count.ensures ∙ ap count_of c.deref-in-loop-cell.ensures.value in
    let reads = subst (λ (l : List Run). IsListOfWords c.args.words (flat_map (loads_of_run e.table) l) c.in_ok-tile.tile.reads) c.deref.ensures.value c.in_ok-tile.ensures.reads in
    let writes = subst (λ (l : List Run). IsListOfWords c.args.words (flat_map (stores_of_run e.table) l) c.in_ok-tile.tile.writes) c.deref.ensures.value c.in_ok-tile.ensures.writes in
    let gained = c.in_ok-tile.ensures.stripes ∙ ap (λ (l : List Run). map strip_of c.loop-cell.stripes.items ++ flat_map (stores_of_run e.table) l) c.deref.ensures.value in
    subst (λ (k : ℕ). Stands e c.args.words c.deref-cell-items.result.now (c.loop-cell.cell-index + 1) c.add.new.groups.items c.tile_of_runs.new.stripes.items (c.loop-cell.instances + k)) (sym same)
    (scope-more g.row.D e c.args.words scope table.deep c.deref-cell-items.result.now c.loop-cell.cell-index c.loop-cell.groups.items c.loop-cell.stripes.items c.loop-cell.instances cells c.loop-cell.invariant
    c.add.new.groups.items c.tile_of_runs.new.stripes.items c.cell-item.result c.in_ok-runs.runs.items c.in_ok-tile.tile c.loop-cell-test.true c.cell-item.is runs reads writes gained c.in_ok-add.ensures)

pub returns : goal.returns
returns g c =
    let e : Extent = record { table = c.args.task.now.pred.now; schedule = c.args.schedule.now; chunk = c.args.task.now.chunk } in
    let view = c.skeleton.view_is ∙ c.in_ok-skeleton.ensures in
    let table : IsTable g.row.D e.table = subst (λ (x : Extent). IsTable g.row.D x.table) view c.skeleton.invariant.table in
    let schedule : IsSchedule g.row.D e.schedule = subst (λ (x : Extent). IsSchedule g.row.D x.schedule) view c.skeleton.invariant.schedule in
    let scope = scope-of g.row.D e c.args.words c.columns-columns.result.now c.requires.some c.requires.few table schedule c.requires.plannable c.columns-columns.ensures.inverse c.columns-columns.ensures.small c.ranges.words.fits in
    let cells : AreCellsOf e c.deref-cell-items.result.now = subst (AreCellsOf e) (sym c.deref-cell-items.ensures.value) (subst (λ (x : Extent). AreCellsOf x c.in_ok-cells.cells.items) c.in_ok-skeleton.ensures c.in_ok-cells.ensures) in
    let plan = scope-plan g.row.D e c.args.words scope table.deep c.deref-cell-items.result.now c.loop-cell.cell-index c.loop-cell.groups.items c.loop-cell.stripes.items c.loop-cell.instances cells c.loop-cell.invariant c.loop-cell-test.false in
    let tiles : length c.deref-cell-items.result.now ≡ c.len.result = c.deref-cell-items.ensures.len ∙ sym c.len.ensures in
    subst (λ (phases : List Phase). IsPlanOf e c.args.words (record { phases = phases; instances = c.loop-cell.instances; tiles = c.len.result; stripes = c.loop-cell.stripes.items })) (sym c.in_ok-into_phases.ensures)
    (subst (λ (k : ℕ). IsPlanOf e c.args.words (record { phases = c.loop-cell.groups.items; instances = c.loop-cell.instances; tiles = k; stripes = c.loop-cell.stripes.items })) tiles plan)
