use Rattle.std.proofs.Common.{◌≡◌, ◌++◌, map, take}
use Rattle.std.specs.List.{flat_map}
use Rattle.domain.specs.Footprints.{Gains}
use Rattle.tiles.specs.Strips.{IsWordOf, load_strips, store_strips, strip_of}
use Rattle.tiles.proofs.touching.Touching.gain_run.Given as goal

abbrev pub invariant-loop-access : goal.invariant-loop-access
invariant-loop-access g l = record {
  reads : Gains (IsWordOf l.words (flat_map (load_strips l.run) (take l.access-index l.access-items))) l.initial.self.reads.items l.self.reads.items;
  writes : Gains (IsWordOf l.words (flat_map (store_strips l.run) (take l.access-index l.access-items))) l.initial.self.writes.items l.self.writes.items;
  stripes : map strip_of l.stripes.items ≡ map strip_of l.initial.stripes.items ++ flat_map (store_strips l.run) (take l.access-index l.access-items);
}
