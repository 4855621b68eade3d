use Rattle.std.proofs.Common.{◌<◌, ◌^◌, unsigned_abs}
use Rattle.line_fit.proofs.TubeLaws.{TubeOver}
use Rattle.line_fit.proofs.tube.tube_of.Given as goal

abbrev pub invariant-loop-place : goal.invariant-loop-place
invariant-loop-place g l = record {
  tube : TubeOver l.line l.samples l.place l.low l.high;
  low : unsigned_abs l.low < 2 ^ 107;
  high : unsigned_abs l.high < 2 ^ 107;
}
