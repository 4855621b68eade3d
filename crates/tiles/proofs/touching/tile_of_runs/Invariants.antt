use Rattle.std.proofs.Common.{◌≡◌, [], ◌++◌, map, take}
use Rattle.std.specs.List.{flat_map}
use Rattle.domain.specs.Footprints.{Gains}
use Rattle.tiles.specs.Strips.{IsWordOf, loads_of_run, stores_of_run, strip_of}
use Rattle.tiles.proofs.touching.tile_of_runs.Given as goal

abbrev pub invariant-loop-run : goal.invariant-loop-run
invariant-loop-run g l = record {
  reads : Gains (IsWordOf l.words (flat_map (loads_of_run l.pred) (take l.run-index l.runs))) [] l.touching.reads.items;
  writes : Gains (IsWordOf l.words (flat_map (stores_of_run l.pred) (take l.run-index l.runs))) [] l.touching.writes.items;
  stripes : map strip_of l.stripes.items ≡ map strip_of l.initial.stripes.items ++ flat_map (stores_of_run l.pred) (take l.run-index l.runs);
}
