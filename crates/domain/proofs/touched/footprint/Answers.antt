use Rattle.std.proofs.Common.{◌≡◌, ◌∙◌, refl, ap, subst, ℕ, ℤ, List, length, Some, true, false, arith}
use Rattle.std.specs.Prelude.{slice_get}
use Rattle.std.proofs.lemmas.Option.{slice_get_read}
use Rattle.domain.specs.Tables.{Access, Block}
use Rattle.domain.specs.Instances.{Instance, block_of}
use Rattle.domain.specs.Footprints.{Gains, IsWordOf}
use Rattle.domain.proofs.TouchedLaws.{HasWords, words-more, reads-list, writes-list}
use Rattle.domain.proofs.touched.footprint.Goals as goal

pub loop-access-preserved : goal.loop-access-preserved
loop-access-preserved g c =
    let is : slice_get c.deref-access-items.result.now c.loop-access.access-index ≡ Some c.access-item.result = slice_get_read c.deref-access-items.result.now (length c.deref-access-items.result.now) c.loop-access.access-index c.access-item.result refl (omega (arith, c.loop-access-test.true)) c.access-item.is in
    let at : c.inst.inside.at ≡ c.args.inst.now.at = ap (λ (x : Instance). x.at) c.inst.view_is in
    let reads = subst (λ (at : List ℤ). Gains (IsWordOf c.access-item.result at c.args.words false) c.loop-access.touched.reads.items c.gain.new.self.reads.items) at c.in_ok-gain.ensures.reads in
    let writes = subst (λ (at : List ℤ). Gains (IsWordOf c.access-item.result at c.args.words true) c.loop-access.touched.writes.items c.gain.new.self.writes.items) at c.in_ok-gain.ensures.writes in
    record {
      reads = words-more _ _ _ _ _ false _ _ is c.loop-access.invariant.reads reads;
      writes = words-more _ _ _ _ _ true _ _ is c.loop-access.invariant.writes writes;
    }

pub returns-clause-reads : goal.returns-clause-reads
returns-clause-reads g c =
    let items : c.deref-access-items.result.now ≡ (block_of c.args.pred.now c.args.inst.now).accesses =
    c.deref-access-items.ensures.value ∙ ap (λ (b : Block). b.accesses) (c.behind-pred.view_is ∙ c.block.ensures.block) ∙ ap (λ (x : Instance). (block_of c.args.pred.now x).accesses) c.inst.view_is in
    let end : c.loop-access.access-index ≡ length c.deref-access-items.result.now = omega (arith, c.loop-access-test.false, c.loop-access.auto.access-index-end) in
    let here = subst (λ (n : ℕ). HasWords c.deref-access-items.result.now n c.args.inst.now.at c.args.words false c.loop-access.touched.reads.items) end c.loop-access.invariant.reads in
    let has = subst (λ (every : List Access). HasWords every (length every) c.args.inst.now.at c.args.words false c.loop-access.touched.reads.items) items here in
    reads-list c.args.pred.now c.args.inst.now c.args.words c.loop-access.touched.reads.items c.in_order.result.items has c.in_order.ensures.rising c.in_order.ensures.has

pub returns-clause-writes : goal.returns-clause-writes
returns-clause-writes g c =
    let items : c.deref-access-items.result.now ≡ (block_of c.args.pred.now c.args.inst.now).accesses =
    c.deref-access-items.ensures.value ∙ ap (λ (b : Block). b.accesses) (c.behind-pred.view_is ∙ c.block.ensures.block) ∙ ap (λ (x : Instance). (block_of c.args.pred.now x).accesses) c.inst.view_is in
    let end : c.loop-access.access-index ≡ length c.deref-access-items.result.now = omega (arith, c.loop-access-test.false, c.loop-access.auto.access-index-end) in
    let here = subst (λ (n : ℕ). HasWords c.deref-access-items.result.now n c.args.inst.now.at c.args.words true c.loop-access.touched.writes.items) end c.loop-access.invariant.writes in
    let has = subst (λ (every : List Access). HasWords every (length every) c.args.inst.now.at c.args.words true c.loop-access.touched.writes.items) items here in
    writes-list c.args.pred.now c.args.inst.now c.args.words c.loop-access.touched.writes.items c.in_order-2.result.items c.requires.words has c.in_order-2.ensures.rising c.in_order-2.ensures.has
