use Rattle.std.proofs.Common.{◌≡◌, ◌∙◌, sym, ap, subst, ◌<◌, ◌+◌, ℕ, pos, length, Some, FitsSigned, w64, arith, rules}
use Rattle.std.proofs.lemmas.Int.{to_z-of_z}
use Rattle.plain_lemmas.proofs.IntegerLaws.{int_lt-true, int_lt-false}
use Rattle.domain.specs.declared.held.HeldWhy.TheVariants.{Many}
use Rattle.domain.specs.Instances.{Instance, Predicted, block_of}
use Rattle.domain.specs.Launches.{block_width, failure}
use Rattle.domain.proofs.LaunchLaws.{Walk, walk-begins, walk-goes, walk-ends, walk-in, walk-held, walk-near, walk-turns, passes-here, many-instances, many-widths}
use Rattle.domain.proofs.launching.launch.Goals as goal
use Rattle.domain.proofs.launching.launch.Goals.{then-instances-ge-MOST_INSTANCES-via-then-instances-ge-MOST_INSTANCES, then-instances-ge-MOST_INSTANCES-via-else-instances-ge-MOST_INSTANCES+then-widths-width-gt-MOST_ADDRESSES}

pub walk-init : goal.walk-init
walk-init g c =
    let first : FitsSigned w64 c.args.chunk.first = search rules in
    let opening = simp to_z-of_z at c.opening-at.ensures.opening in
    record {
      walk = subst (λ (x : Instance). Walk g.row.D c.args.pred.now (pos c.args.words) c.args.chunk x 0 0) (sym opening) (walk-begins g.row.D c.args.pred.now c.opening-at.ensures.table c.args.chunk (pos c.args.words) c.requires.from c.requires.some);
      few = omega arith;
      small = omega arith;
    }

pub width-width-requires : goal.width-width-requires
width-width-requires g c =
    let p : Predicted c.args.pred.now c.args.chunk c.walk.at = walk-in g.row.D c.args.pred.now c.opening-at.ensures.table c.args.chunk (pos c.args.words) c.walk.at c.walk.instances c.walk.widths c.walk.invariant.walk (int_lt-true _ _ (sym c.holds.ensures ∙ c.walk-test.true)) in
    let block : c.at.inside.block < length c.args.pred.now.blocks = subst (λ (x : Instance). x.block < length c.args.pred.now.blocks) (sym c.at.view_is) p.is.block in
    (search rules, (c.requires.few, block))

pub returns-then-instances-ge-MOST_INSTANCES-clause-held : goal.returns-then-instances-ge-MOST_INSTANCES-clause-held
returns-then-instances-ge-MOST_INSTANCES-clause-held g c =
    let w : Walk g.row.D c.args.pred.now (pos c.args.words) c.args.chunk c.walk.at c.walk.instances c.walk.widths = c.walk.invariant.walk in
    let p : Predicted c.args.pred.now c.args.chunk c.walk.at = walk-in g.row.D c.args.pred.now c.opening-at.ensures.table c.args.chunk (pos c.args.words) c.walk.at c.walk.instances c.walk.widths w (int_lt-true _ _ (sym c.holds.ensures ∙ c.walk-test.true)) in
    let width : c.width-width.result ≡ block_width (block_of c.args.pred.now c.walk.at) = c.width-width.ensures.width ∙ ap (λ (x : Instance). block_width (block_of c.args.pred.now x)) c.at.view_is in
    let many : failure c.args.pred.now (pos c.args.words) w.before c.walk.at ≡ Some Many =
    elim c.then-instances-ge-MOST_INSTANCES.branch [
      | then-instances-ge-MOST_INSTANCES-via-then-instances-ge-MOST_INSTANCES v ↦ many-instances c.args.pred.now (pos c.args.words) w.before c.walk.at (omega (arith, w.count, v.if-instances-ge-MOST_INSTANCES))
      | then-instances-ge-MOST_INSTANCES-via-else-instances-ge-MOST_INSTANCES+then-widths-width-gt-MOST_ADDRESSES v ↦ many-widths c.args.pred.now (pos c.args.words) w.before c.walk.at (omega (arith, w.sum, width, v.if-widths-width-gt-MOST_ADDRESSES))
    ] in
    walk-held g.row.D c.args.pred.now c.opening-at.ensures.table c.args.chunk (pos c.args.words) c.walk.at Many c.walk.instances c.walk.widths w p many

pub data_failure-requires : goal.data_failure-requires
data_failure-requires g c =
    let w : Walk g.row.D c.args.pred.now (pos c.args.words) c.args.chunk c.walk.at c.walk.instances c.walk.widths = c.walk.invariant.walk in
    let p : Predicted c.args.pred.now c.args.chunk c.walk.at = walk-in g.row.D c.args.pred.now c.opening-at.ensures.table c.args.chunk (pos c.args.words) c.walk.at c.walk.instances c.walk.widths w (int_lt-true _ _ (sym c.holds.ensures ∙ c.walk-test.true)) in
    (search rules, (search rules, (c.requires.few, (p.is.block, walk-near g.row.D c.args.pred.now c.opening-at.ensures.table c.args.chunk (pos c.args.words) c.walk.at c.walk.instances c.walk.widths w c.requires.to c.walk.invariant.few))))

pub returns-in-Some-clause-held : goal.returns-in-Some-clause-held
returns-in-Some-clause-held g c =
    let w : Walk g.row.D c.args.pred.now (pos c.args.words) c.args.chunk c.walk.at c.walk.instances c.walk.widths = c.walk.invariant.walk in
    let p : Predicted c.args.pred.now c.args.chunk c.walk.at = walk-in g.row.D c.args.pred.now c.opening-at.ensures.table c.args.chunk (pos c.args.words) c.walk.at c.walk.instances c.walk.widths w (int_lt-true _ _ (sym c.holds.ensures ∙ c.walk-test.true)) in
    let width : c.width-width.result ≡ block_width (block_of c.args.pred.now c.walk.at) = c.width-width.ensures.width ∙ ap (λ (x : Instance). block_width (block_of c.args.pred.now x)) c.at.view_is in
    let here = passes-here c.args.pred.now (pos c.args.words) w.before c.walk.at (omega (arith, w.count)) (omega (arith, w.sum, width)) in
    walk-held g.row.D c.args.pred.now c.opening-at.ensures.table c.args.chunk (pos c.args.words) c.walk.at c.in-Some.why c.walk.instances c.walk.widths w p (here ∙ sym c.data_failure.ensures ∙ c.in-Some.is)

pub next-at-requires : goal.next-at-requires
next-at-requires g c =
    let w : Walk g.row.D c.args.pred.now (pos c.args.words) c.args.chunk c.walk.at c.walk.instances c.walk.widths = c.walk.invariant.walk in
    let p : Predicted c.args.pred.now c.args.chunk c.walk.at = walk-in g.row.D c.args.pred.now c.opening-at.ensures.table c.args.chunk (pos c.args.words) c.walk.at c.walk.instances c.walk.widths w (int_lt-true _ _ (sym c.holds.ensures ∙ c.walk-test.true)) in
    (search rules, (search rules, (c.requires.few, (p.is.block, walk-turns g.row.D c.args.pred.now c.opening-at.ensures.table c.args.chunk (pos c.args.words) c.walk.at c.walk.instances c.walk.widths w c.requires.to c.walk.invariant.few))))

pub walk-preserved : goal.walk-preserved
walk-preserved g c =
    let w : Walk g.row.D c.args.pred.now (pos c.args.words) c.args.chunk c.walk.at c.walk.instances c.walk.widths = c.walk.invariant.walk in
    let p : Predicted c.args.pred.now c.args.chunk c.walk.at = walk-in g.row.D c.args.pred.now c.opening-at.ensures.table c.args.chunk (pos c.args.words) c.walk.at c.walk.instances c.walk.widths w (int_lt-true _ _ (sym c.holds.ensures ∙ c.walk-test.true)) in
    let width : c.width-width.result ≡ block_width (block_of c.args.pred.now c.walk.at) = c.width-width.ensures.width ∙ ap (λ (x : Instance). block_width (block_of c.args.pred.now x)) c.at.view_is in
    let here = passes-here c.args.pred.now (pos c.args.words) w.before c.walk.at (omega (arith, w.count)) (omega (arith, w.sum, width)) in
    let goes = walk-goes g.row.D c.args.pred.now c.opening-at.ensures.table c.args.chunk (pos c.args.words) c.walk.at c.next-at.result c.walk.instances c.walk.widths w c.next-at.ensures.next p (here ∙ sym c.data_failure.ensures ∙ c.in_default.is) in
    record {
      walk = subst (λ (n : ℕ). Walk g.row.D c.args.pred.now (pos c.args.words) c.args.chunk c.next-at.result (c.walk.instances + 1) (c.walk.widths + n)) (sym width) goes;
      few = omega arith;
      small = omega arith;
    }

pub returns-clause-launched : goal.returns-clause-launched
returns-clause-launched g c =
    walk-ends g.row.D c.args.pred.now c.opening-at.ensures.table c.args.chunk (pos c.args.words) c.walk.at c.walk.instances c.walk.widths c.walk.invariant.walk (int_lt-false _ _ (sym c.holds.ensures ∙ c.walk-test.false))
