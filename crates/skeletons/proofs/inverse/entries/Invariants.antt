use Rattle.std.proofs.Common.{◌≡◌, take, map, length}
use Rattle.domain.specs.Instances.{counter}
use Rattle.skeletons.proofs.inverse.entries.Given as goal

abbrev pub invariant-loop-column : goal.invariant-loop-column
invariant-loop-column g l = record {
  long : length l.entries ≡ g.row.D;
  done : take l.column l.entries ≡ map (λ column. counter column l.row) (take l.column l.columns);
}
