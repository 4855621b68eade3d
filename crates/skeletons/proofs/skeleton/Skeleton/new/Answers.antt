use Rattle.std.proofs.Common.{◌∙◌, ◌≤◌, ◌+◌, ℕ, ℤ, sym, ap, subst, length, length-append, List, [], ◌∷◌, arith}
use Rattle.std.specs.List.{AllByRecursion}
use Rattle.affine.specs.Matrices.{product}
use Rattle.level_walk.specs.Walks.{IsBlock}
use Rattle.transform.specs.Schedules.{place}
use Rattle.skeletons.specs.Cells.{Extent}
use Rattle.skeletons.specs.Frames.{AllFind, Finds}
use Rattle.skeletons.proofs.SkeletonLaws.{block-more, find-more, there-of}
use Rattle.skeletons.proofs.skeleton.Skeleton.new.Goals as goal

pub loop-rank-preserved : goal.loop-rank-preserved
loop-rank-preserved g c =
    let e : Extent = record { table = c.args.pred.now; schedule = c.args.schedule.now; chunk = c.args.chunk } in
    let old = c.loop-rank.blocks.items in
    let b = c.in_ok-block_scan.field-0 in
    let items = c.in_ok-push.ensures.items in
    let i = c.loop-rank.invariant in
    record {
      count = ap length items ∙ length-append old (b ∷ []) ∙ ap (λ (k : ℕ). k + 1) i.count;
      are = subst (AllByRecursion (IsBlock g.row.D)) (sym items) (block-more g.row.D old b i.are c.in_ok-block_scan.ensures.is);
      find = subst (AllFind g.row.D e 0) (sym items) (find-more g.row.D e 0 old b i.find (subst (λ (r : ℕ). Finds g.row.D e r b) (let n = i.count in omega (arith, n)) c.in_ok-block_scan.ensures.finds));
    }

pub invariant_of-result : goal.invariant_of-result
invariant_of-result g c =
    let e : Extent = record { table = c.args.pred.now; schedule = c.args.schedule.now; chunk = c.args.chunk } in
    let few : g.row.D ≤ 6 = (let f = c.requires.few in omega (arith, f)) in
    let i = c.loop-rank.invariant in
    let n = i.count in
    let v = c.block_count-rank-end.ensures.value in
    let s = c.block_count-rank-end.ensures.short in
    let past = c.loop-rank-test.false in
    let auto = c.loop-rank.auto.rank-end in
    record {
      some = c.requires.some;
      few = few;
      table = c.block_count-rank-end.ensures.table;
      schedule = c.matrix-matrix.ensures.schedule;
      launch = c.requires.launch;
      there = λ p long. ap (λ (m : List (List ℤ)). product m (place c.args.schedule.now p)) c.transposed.ensures
          ∙ there-of g.row.D e few c.block_count-rank-end.ensures.table c.matrix-matrix.ensures.schedule c.requires.launch c.columns-columns.result.now c.columns-columns.ensures.inverse p long;
      count = omega (arith, n, v, past, auto);
      scans = record { few = omega (arith, n, v, s, past, auto); all = i.are };
      finds = i.find;
    }
