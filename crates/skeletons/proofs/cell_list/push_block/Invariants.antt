use Rattle.std.proofs.Common.{take}
use Rattle.skeletons.specs.CellLists.{Gains, IsCellAmong}
use Rattle.skeletons.proofs.cell_list.push_block.Given as goal

abbrev pub invariant-loop-stretch : goal.invariant-loop-stretch
invariant-loop-stretch g l = Gains (IsCellAmong (record { table = l.frame.pred.now; schedule = l.frame.schedule.now; chunk = l.frame.chunk }) l.frame.inverse (take l.stretch-index l.stretches)) l.initial.cells.items l.cells.items
