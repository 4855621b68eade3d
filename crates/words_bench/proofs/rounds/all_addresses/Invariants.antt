use Rattle.words_bench.specs.Reach.{AreBelow}
use Rattle.words_bench.proofs.rounds.all_addresses.Given as goal

abbrev pub invariant-loop-address : goal.invariant-loop-address
invariant-loop-address l = AreBelow l.address l.addresses.items
