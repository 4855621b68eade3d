use Rattle.std.proofs.Common.{◌≡◌, take, length}
use Rattle.skeletons.proofs.inverse.array_of.Given as goal

abbrev pub invariant-loop-place : goal.invariant-loop-place
invariant-loop-place g l = record {
  long : length l.array ≡ g.row.D;
  done : take l.place l.array ≡ take l.place l.values;
}
