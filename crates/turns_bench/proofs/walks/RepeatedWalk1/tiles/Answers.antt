use Rattle.std.proofs.Common.{sym}
use Rattle.turns_bench.proofs.CopyingLaws.{tiles-long}
use Rattle.turns_bench.proofs.walks.RepeatedWalk1.tiles.Goals as goal

pub returns : goal.returns
returns c = sym (tiles-long c.args.self.now.tiles c.args.self.now.each)
