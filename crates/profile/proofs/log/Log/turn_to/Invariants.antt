use Rattle.std.proofs.Common.{◌≡◌, [], take}
use Rattle.profile.specs.Logs.{told, IsInStep}
use Rattle.profile.proofs.log.Log.turn_to.Given as goal

abbrev pub invariant-loop-place : goal.invariant-loop-place
invariant-loop-place l = record {
  step : IsInStep l.self;
  same : told [] l.self.items.items ≡ told [] l.fn.self.items.items;
  begins : take l.place l.self.counters.items ≡ take l.place l.counters;
}
