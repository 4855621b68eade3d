use Rattle.std.proofs.Common.{◌≡◌, take, map, length, neg_ℤ}
use Rattle.skeletons.proofs.side.turned.Given as goal

abbrev pub invariant-loop-place : goal.invariant-loop-place
invariant-loop-place g l = record {
  long : length l.others ≡ g.row.D;
  done : take l.place l.others ≡ map (λ number. neg_ℤ number) (take l.place l.numbers);
}
