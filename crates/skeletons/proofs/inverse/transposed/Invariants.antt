use Rattle.std.proofs.Common.{◌≡◌, take, map, length}
use Rattle.std.specs.List.{range_with_len}
use Rattle.skeletons.specs.Frames.{entries}
use Rattle.skeletons.proofs.inverse.transposed.Given as goal

abbrev pub invariant-loop-row : goal.invariant-loop-row
invariant-loop-row g l = record {
  long : length l.rows ≡ g.row.D;
  done : take l.row l.rows ≡ map (entries l.columns) (range_with_len 0 l.row);
}
