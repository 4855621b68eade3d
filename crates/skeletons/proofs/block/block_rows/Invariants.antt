use Rattle.skeletons.specs.Scans.{IsRowsTo}
use Rattle.skeletons.proofs.block.block_rows.Given as goal

abbrev pub invariant-loop-place : goal.invariant-loop-place
invariant-loop-place g l = IsRowsTo g.row.D l.scope.pred.now l.scope.chunk l.scope.block.now l.scope.columns.now l.place l.rows.items
