use Rattle.std.proofs.Common.{sym, FitsSigned, w64, rules}
use Rattle.std.proofs.lemmas.Int.{to_z-of_z}
use Rattle.dependence.proofs.PairLaws.{system-is}
use Rattle.dependence.proofs.pairs.system_for.Goals as goal

pub returns : goal.returns
returns g c =
    let l : FitsSigned w64 c.args.length = search rules in
    system-is c.args.pred.now c.args.length c.args.first c.args.second c.args.case c.counters.result c.counters-2.result g.row.D c.block-a.result.now c.block-b.result.now c.referred.result.now c.referred-2.result.now
    c.new.result.items c.at_most.new.self.rows.items c.first_counter.new.self.rows.items c.first_counter-2.new.self.rows.items c.inner_counters.new.self.rows.items c.inner_counters-2.new.self.rows.items c.meeting.new.self.rows.items c.equal_places.new.self.rows.items c.rising_place.new.self.rows.items
    c.block-a.ensures.block c.block-b.ensures.block c.counters.ensures.value c.counters-2.ensures.value (sym c.block-a.ensures.deep) c.referred.ensures.value c.referred-2.ensures.value
    c.new.ensures.items c.in_ok-at_most.ensures (simp to_z-of_z at c.in_ok-first_counter.ensures) (simp to_z-of_z at c.in_ok-first_counter-2.ensures) c.in_ok-inner_counters.ensures c.in_ok-inner_counters-2.ensures c.in_ok-meeting.ensures c.in_ok-equal_places.ensures c.in_ok-rising_place.ensures
