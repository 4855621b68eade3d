use Rattle.std.proofs.Common.{◌≡◌, sym, ap, ◌∙◌, subst, ℕ, List, ◌++◌, map, take, rules}
use Rattle.std.specs.List.{flat_map}
use Rattle.domain.specs.Footprints.{Gains}
use Rattle.domain.specs.Tables.{Access, Block, block_at}
use Rattle.domain.specs.Instances.{Instance, block_of}
use Rattle.plain_lemmas.specs.Lists.{Has}
use Rattle.skeletons.specs.Runs.{Run}
use Rattle.tiles.specs.declared.strip.Strip.{Strip}
use Rattle.tiles.specs.Strips.{IsWordOf, load_strips, store_strips, strip_of}
use Rattle.tiles.proofs.WordLaws.{flat-all, flat-more, get_or-has, strips-append, words-more}
use Rattle.plain_lemmas.proofs.MembershipLaws.{has-flat_map}
use Rattle.tiles.proofs.touching.Touching.gain_run.Goals as goal

pub gain_access-requires : goal.gain_access-requires
gain_access-requires g c =
    let items : c.deref-access-items.result.now ≡ (block_of c.args.pred.now c.args.run.now.first).accesses =
    c.deref-access-items.ensures.value ∙ ap (λ (b : Block). b.accesses) (c.behind-pred.view_is ∙ c.block.ensures.block)
    ∙ ap (λ (rank : ℕ). (block_at c.args.pred.now rank).accesses) (ap (λ (x : Instance). x.block) c.first.view_is ∙ ap (λ (r : Run). r.first.block) c.run.view_is) in
    let there = subst (λ (l : List Access). Has l c.access-item.result) items (get_or-has c.deref-access-items.result.now c.loop-access.access-index c.access-item.result c.loop-access-test.true c.access-item.is) in (
      search rules,
      (
        search rules,
        (
          c.requires.few,
          (
            c.requires.planned.small,
            λ strip h. c.requires.planned.stores strip (has-flat_map (store_strips c.args.run.now) (block_of c.args.pred.now c.args.run.now.first).accesses c.access-item.result strip there h),
          ),
        ),
      ),
    )

pub loop-access-preserved : goal.loop-access-preserved
loop-access-preserved g c =
    let items = c.deref-access-items.result.now in
    let n = c.loop-access.access-index in
    let x = c.access-item.result in
    let stripes = c.in_ok-gain_access.ensures.stripes in
    record {
      reads = words-more c.args.words (load_strips c.args.run.now) items n x c.args.self.now.reads.items c.loop-access.self.reads.items c.gain_access.new.self.reads.items c.loop-access-test.true c.access-item.is c.loop-access.invariant.reads c.in_ok-gain_access.ensures.reads;
      writes = words-more c.args.words (store_strips c.args.run.now) items n x c.args.self.now.writes.items c.loop-access.self.writes.items c.gain_access.new.self.writes.items c.loop-access-test.true c.access-item.is c.loop-access.invariant.writes c.in_ok-gain_access.ensures.writes;
      stripes = strips-append (map strip_of c.args.stripes.now.items) (flat_map (store_strips c.args.run.now) (take n items)) (store_strips c.args.run.now x) (map strip_of c.loop-access.stripes.items) (map strip_of c.gain_access.new.stripes.items) c.loop-access.invariant.stripes stripes
          ∙ ap (λ (l : List Strip). map strip_of c.args.stripes.now.items ++ l) (sym (flat-more (store_strips c.args.run.now) items n x c.loop-access-test.true c.access-item.is));
    }

pub returns-clause-reads : goal.returns-clause-reads
returns-clause-reads g c =
    let items : c.deref-access-items.result.now ≡ (block_of c.args.pred.now c.args.run.now.first).accesses =
    c.deref-access-items.ensures.value ∙ ap (λ (b : Block). b.accesses) (c.behind-pred.view_is ∙ c.block.ensures.block)
    ∙ ap (λ (rank : ℕ). (block_at c.args.pred.now rank).accesses) (ap (λ (x : Instance). x.block) c.first.view_is ∙ ap (λ (r : Run). r.first.block) c.run.view_is) in
    subst (λ (l : List Strip). Gains (IsWordOf c.args.words l) c.args.self.now.reads.items c.loop-access.self.reads.items)
    (flat-all (load_strips c.args.run.now) c.deref-access-items.result.now c.loop-access.access-index c.loop-access-test.false ∙ ap (flat_map (load_strips c.args.run.now)) items) c.loop-access.invariant.reads

pub returns-clause-writes : goal.returns-clause-writes
returns-clause-writes g c =
    let items : c.deref-access-items.result.now ≡ (block_of c.args.pred.now c.args.run.now.first).accesses =
    c.deref-access-items.ensures.value ∙ ap (λ (b : Block). b.accesses) (c.behind-pred.view_is ∙ c.block.ensures.block)
    ∙ ap (λ (rank : ℕ). (block_at c.args.pred.now rank).accesses) (ap (λ (x : Instance). x.block) c.first.view_is ∙ ap (λ (r : Run). r.first.block) c.run.view_is) in
    subst (λ (l : List Strip). Gains (IsWordOf c.args.words l) c.args.self.now.writes.items c.loop-access.self.writes.items)
    (flat-all (store_strips c.args.run.now) c.deref-access-items.result.now c.loop-access.access-index c.loop-access-test.false ∙ ap (flat_map (store_strips c.args.run.now)) items) c.loop-access.invariant.writes
