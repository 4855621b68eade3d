use Rattle.std.proofs.Common.{◌<◌, ◌≤◌, ◌+◌, inr, arith}
use Rattle.domain.specs.Footprints.{Gains}
use Rattle.domain.proofs.TouchedLaws.{gains-push, gains-same, range-same}
use Rattle.domain.proofs.touched.push_range.Goals as goal

pub loop-address-preserved : goal.loop-address-preserved
loop-address-preserved c =
    let more : Gains (λ a. (c.args.from ≤ a) × (a < c.loop-address.address + 1)) c.args.list.now.items c.push.new.self.items = rw c.in_ok-push.ensures.items (gains-push _ _ _ _ c.loop-address.auto.address c.loop-address.invariant.gains) in
    record { gains = more; inside = inr (omega (arith, c.loop-address-test.true)) }

pub returns : goal.returns
returns c = gains-same _ _ _ _ (range-same c.args.from c.args.to c.loop-address.address c.loop-address-test.false c.loop-address.invariant.inside) c.loop-address.invariant.gains
