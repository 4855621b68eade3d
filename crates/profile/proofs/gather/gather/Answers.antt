use Rattle.std.proofs.Common.{refl, ◌<◌, length, arith}
use Rattle.profile.proofs.GatherLaws.{gather-counters, gather-samples}
use Rattle.profile.proofs.gather.gather.Goals as goal

pub loop-item-preserved : goal.loop-item-preserved
loop-item-preserved g c =
    let within : c.loop-item.item-index < length c.args.items.now = omega arith in
    record {
      counters = gather-counters c.args.items.now c.loop-item.item-index _ _ c.loop-item.counters.items c.read.new.counters.items within refl c.loop-item.invariant.counters c.in_ok-read.ensures.counters;
      found = gather-samples g.row.D c.args.block c.args.what c.args.items.now c.loop-item.item-index _ _ c.loop-item.counters.items c.loop-item.found.items c.read.new.found.items within refl c.loop-item.invariant.counters c.loop-item.invariant.found c.in_ok-read.ensures.found;
    }
