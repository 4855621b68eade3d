-- Ended: what main's seat and the crew's list are when the run of a chunk is over.
use Rattle.std.proofs.Common.{◌≡◌, ap, subst, ℕ, ◌≤◌, ◌+◌, ◌-◌, List, ◌++◌, map, length, length-append, Option, Some, None, arith}
use Rattle.std.proofs.lemmas.List.{length-map}
use Rattle.core_steps.specs.declared.view.View.{View}
use Rattle.skeletons.specs.Cells.{Extent}
use Rattle.follow_chunk.specs.Tasks.{TaskState}
use Rattle.crew.specs.declared.handed.Handed.{Handed}
use Rattle.tiles.specs.Plans.{ChunkPlan}
use Rattle.chunk_run.specs.Ready.{IsReady}
use Rattle.chunk_run.specs.Groups.{GainsBegun, GainsWhole, AttemptGains, RunsOn}
use Rattle.chunk_run.proofs.CountLaws.{one-tile-counts}
use Rattle.chunk_run.proofs.HandingLaws.{entries-long}
use Rattle.chunk_run.proofs.PhasingLaws.{tiles_in, counts-exist}
use Rattle.chunk_run.proofs.ReadyPhaseLaws.{all-one, few-phases}

module _ (D words workers : ℕ) (k : TaskState) (e : Extent) (plan : ChunkPlan) (ready : IsReady D words workers k e plan) where
  few-counts : length (map tiles_in plan.phases) ≤ 65536
  few-counts = let l = length-map plan.phases tiles_in in let f = few-phases D words workers k e plan ready in omega (arith, l, f)

  begun-few : (old new : List Handed) → GainsBegun e workers old new → length new ≤ length old + 65536
  begun-few old new g =
      let one = one-tile-counts e ((g.begun).front ++ (g.begun).rest) (map tiles_in plan.phases) (g.begun).has (counts-exist e plan.phases ready.planned.cells (all-one D words workers k e plan ready) ready.planned.rise) in
      let same = ap length one in
      let parts = length-append (g.begun).front (g.begun).rest in
      let few = few-counts in
      let size = entries-long e.chunk.first workers 0 (g.begun).front g.group (g.begun).entries in
      let l = ap length g.gained in
      let both = length-append old g.group in
      omega (arith, same, parts, few, size, l, both)

  whole-few : (steps : ℕ) (old new : List Handed) → GainsWhole e workers steps old new → length new ≤ length old + 65536
  whole-few steps old new g =
      let one = one-tile-counts e (g.whole).counts (map tiles_in plan.phases) (g.whole).has (counts-exist e plan.phases ready.planned.cells (all-one D words workers k e plan ready) ready.planned.rise) in
      let same = ap length one in
      let few = few-counts in
      let size = entries-long e.chunk.first workers 0 (g.whole).counts g.group (g.whole).entries in
      let l = ap length g.gained in
      let both = length-append old g.group in
      omega (arith, same, few, size, l, both)

  -- the epoch rose by at most the number of phases
  pub few-attempted : (from : ℕ) (rest : Option ℕ) (old new : List Handed) (v w : View) → AttemptGains e workers from rest old new → RunsOn v w old new → w.epoch ≤ v.epoch + 65536
  few-attempted from None old new v w g runs = let f = begun-few old new g in let h = runs.epoch in omega (arith, f, h)
  few-attempted from (Some left) old new v w g runs = let f = whole-few g.0 old new g.2 in let h = runs.epoch in omega (arith, f, h)

-- the steps of a whole group are those taken
pub gains-taken : (e : Extent) (workers from left taken : ℕ) (old new : List Handed) → AttemptGains e workers from (Some left) old new → taken ≡ from - left → GainsWhole e workers taken old new
gains-taken e workers from left taken old new g is = subst (λ (s : ℕ). GainsWhole e workers s old new) (let n = g.1 in let m : g.0 ≡ taken = omega (arith, n, is) in m) g.2
