use Rattle.std.proofs.Common.{◌≡◌, take}
use Rattle.report.proofs.placing.firsts.Given as goal

abbrev pub invariant-loop-place : goal.invariant-loop-place
invariant-loop-place g l = l.found.items ≡ take l.place l.numbers
