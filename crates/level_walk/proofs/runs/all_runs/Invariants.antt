use Rattle.std.proofs.Common.{length}
use Rattle.level_walk.specs.Places.{Stands, left}
use Rattle.level_walk.specs.Fronts.{fronts}
use Rattle.level_walk.proofs.RunLaws.{IsScannedTo}
use Rattle.level_walk.proofs.runs.all_runs.Given as goal

abbrev pub invariant-fronts : goal.invariant-fronts
invariant-fronts g l = record {
  stands : Stands (fronts (g.R.Ranged.space l.set)) l.cursor;
  scanned : IsScannedTo (g.R.Ranged.space l.set) l.runs.items (left (fronts (g.R.Ranged.space l.set)) l.cursor);
}

abbrev pub decreases-fronts : goal.decreases-fronts
decreases-fronts g l = length (left (fronts (g.R.Ranged.space l.set)) l.cursor)
