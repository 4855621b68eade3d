use Rattle.std.proofs.Common.{rules}
use Rattle.skeletons.specs.Cells.{Extent}
use Rattle.skeletons.specs.RunLists.{IsStretch}
use Rattle.skeletons.proofs.RunListLaws.{item-at}
use Rattle.skeletons.proofs.run_list.push_runs.Goals as goal

pub run_at-requires : goal.run_at-requires
run_at-requires g c =
    let f = c.args.frame.now in
    let e : Extent = record { table = f.pred.now; schedule = f.schedule.now; chunk = f.chunk } in
    let stretch : IsStretch e c.args.rank c.stretch-item.result = item-at (IsStretch e c.args.rank) c.args.stretches.now c.loop-stretch.stretch-index c.stretch-item.result c.requires.stretches c.loop-stretch-test.true c.stretch-item.is in
    search (rules, stretch)
