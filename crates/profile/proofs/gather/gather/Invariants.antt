use Rattle.std.proofs.Common.{◌≡◌, [], take}
use Rattle.profile.specs.Logs.{told, counters_in}
use Rattle.profile.specs.Gathered.{samples_of}
use Rattle.profile.proofs.gather.gather.Given as goal

abbrev pub invariant-loop-item : goal.invariant-loop-item
invariant-loop-item g l = record {
  counters : l.counters.items ≡ counters_in [] (take l.item-index l.items);
  found : l.found.items ≡ samples_of g.row.D l.block l.what (told [] (take l.item-index l.items));
}
