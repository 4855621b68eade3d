use Rattle.std.proofs.Common.{◌≡◌, ◌≤◌, ◌+◌, false, length, vec_len}
use Rattle.std.specs.Prelude.{vec_capacity}
use Rattle.turns_bench.proofs.one_after_another.Given as goal

abbrev pub invariant-loop-number : goal.invariant-loop-number
invariant-loop-number g l = record {
  table : l.main.table ≡ l.words;
  unposted : l.main.view.posted ≡ false;
  long : length l.main.view.base ≡ 40;
  epoch : l.main.view.epoch ≡ l.number;
  empty : vec_len l.all ≡ 0;
  room : l.asked.workers ≤ vec_capacity l.all;
  spare : l.asked.times ≤ g.C.Crew.spare l.crew + l.number;
}
