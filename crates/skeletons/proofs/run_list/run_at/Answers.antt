use Rattle.std.proofs.Common.{rules, ◌≡◌, sym, subst, FitsSigned, w64}
use Rattle.std.proofs.lemmas.Int.{to_z-of_z}
use Rattle.level_walk.specs.Stretches.{point_at}
use Rattle.skeletons.specs.Cells.{Extent}
use Rattle.skeletons.specs.Frames.{IsPlaceOf}
use Rattle.skeletons.proofs.CellListLaws.{near-fits}
use Rattle.skeletons.proofs.run_list.run_at.Goals as goal

pub instance-first-requires : goal.instance-first-requires
instance-first-requires g c =
    let f = c.args.frame.now in
    let e : Extent = record { table = f.pred.now; schedule = f.schedule.now; chunk = f.chunk } in
    let s = c.args.stretch.now in
    let low : FitsSigned w64 s.low = near-fits s.low c.requires.stretch.near_low in
    let point : c.point-point.result.items ≡ point_at s s.low = simp to_z-of_z at c.point-point.ensures in
    let place : IsPlaceOf e c.args.rank c.point-point.result.items = subst (IsPlaceOf e c.args.rank) (sym point) c.requires.stretch.first in
    search (rules, place)
