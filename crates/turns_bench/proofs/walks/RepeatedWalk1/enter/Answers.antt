use Rattle.std.proofs.Common.{◌<◌, sym, arith}
use Rattle.turns_bench.proofs.CopyingLaws.{tile-at, tiles-long}
use Rattle.turns_bench.proofs.walks.RepeatedWalk1.enter.Goals as goal

pub returns-clause-rest : goal.returns-clause-rest
returns-clause-rest c =
    let w = c.args.self.now in
    let long = tiles-long w.tiles w.each in
    let inside = c.requires.inside in
    let below : c.args._tile < w.tiles = omega (arith, long, inside) in
    sym (tile-at w.tiles w.each c.args._tile below)
