use Rattle.std.proofs.Common.{refl, ◌+◌, arith}
use Rattle.dependence.proofs.PairLaws.{more-of-map, ref_at}
use Rattle.dependence.proofs.pairs.push_refs.Goals as goal

pub loop-number-preserved : goal.loop-number-preserved
loop-number-preserved g c = more-of-map c.args.found.now.items c.loop-number.found.items c.push.new.self.items (ref_at c.args.rank) 1 c.loop-number.number (c.loop-number.number + 1) _ (omega arith) c.loop-number.invariant c.in_ok-push.ensures.items refl
