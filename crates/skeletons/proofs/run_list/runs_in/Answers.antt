use Rattle.std.proofs.Common.{rules, ◌≡◌, ◌∙◌, ◌<◌, ◌≤◌, ◌+◌, ◌-◌, ℤ, List, [], ◌++◌, map, length, get_or, sym, ap, subst}
use Rattle.std.specs.List.{AllByRecursion}
use Rattle.plain_lemmas.proofs.MembershipLaws.{all-from}
use Rattle.level_walk.specs.Walks.{IsBlock}
use Rattle.level_walk.specs.declared.runs.Run.{Run as Stretch}
use Rattle.level_walk.specs.declared.scans.BlockScan.{BlockScan}
use Rattle.skeletons.specs.Cells.{Extent}
use Rattle.skeletons.specs.Frames.{Finds}
use Rattle.skeletons.specs.RunLists.{IsStretch, run_of}
use Rattle.skeletons.specs.Runs.{IsDirection}
use Rattle.skeletons.proofs.RunListLaws.{AreRunsTo, finds-at, is-direction, is-stretch, item-at, runs-end, runs-more}
use Rattle.skeletons.proofs.run_list.runs_in.Goals as goal

pub loop-rank-preserved : goal.loop-rank-preserved
loop-rank-preserved g c =
    let f = c.args.frame.now in
    let e : Extent = record { table = f.pred.now; schedule = f.schedule.now; chunk = f.chunk } in
    let is = c.requires.frame in
    let scans = f.blocks.items in
    let rank = c.loop-rank.rank in
    let b = c.block-item.result in
    let direction : List ℤ = get_or c.direction.inside.rows (g.row.D - 1) [] in
    let last : IsDirection g.row.D e.schedule direction = subst (λ rows. IsDirection g.row.D e.schedule (get_or rows (g.row.D - 1) [])) (sym c.direction.view_is) (is-direction g.row.D e.schedule c.columns.result.now is.some c.columns.ensures.inverse) in
    let inside : rank < length scans = subst (λ (bs : List BlockScan). rank < length bs) c.deref-block-items.ensures.value c.loop-rank-test.true in
    let at : b ≡ get_or scans rank b = subst (λ (bs : List BlockScan). b ≡ get_or bs rank b) c.deref-block-items.ensures.value c.block-item.is in
    let finds : Finds g.row.D e rank b = finds-at g.row.D e rank scans b is.finds inside at in
    let stretches = c.in_ok-stretches.stretches.items in
    subst (λ rs. AreRunsTo e direction c.args.cell.now (rank + 1) rs) (sym (c.in_ok-push_runs.ensures ∙ ap (λ (ss : List Stretch). c.loop-rank.runs.items ++ map (run_of e f.inverse direction rank) ss) c.as_slice.ensures.value))
    (runs-more g.row.D e f.inverse scans is direction last c.args.cell.now c.cell_box-found.result.lows c.cell_box-found.result.highs c.cell_box-found.ensures rank b finds (item-at (IsBlock g.row.D) scans rank b is.scans.all inside at)
    c.loop-rank.runs.items stretches c.in_ok-stretches.ensures c.loop-rank.invariant)

pub push_runs-requires : goal.push_runs-requires
push_runs-requires g c =
    let f = c.args.frame.now in
    let e : Extent = record { table = f.pred.now; schedule = f.schedule.now; chunk = f.chunk } in
    let is = c.requires.frame in
    let scans = f.blocks.items in
    let rank = c.loop-rank.rank in
    let b = c.block-item.result in
    let direction : List ℤ = get_or c.direction.inside.rows (g.row.D - 1) [] in
    let last : IsDirection g.row.D e.schedule direction = subst (λ rows. IsDirection g.row.D e.schedule (get_or rows (g.row.D - 1) [])) (sym c.direction.view_is) (is-direction g.row.D e.schedule c.columns.result.now is.some c.columns.ensures.inverse) in
    let inside : rank < length scans = subst (λ (bs : List BlockScan). rank < length bs) c.deref-block-items.ensures.value c.loop-rank-test.true in
    let at : b ≡ get_or scans rank b = subst (λ (bs : List BlockScan). b ≡ get_or bs rank b) c.deref-block-items.ensures.value c.block-item.is in
    let finds : Finds g.row.D e rank b = finds-at g.row.D e rank scans b is.finds inside at in
    let stretches = c.in_ok-stretches.stretches.items in
    let all : AllByRecursion (IsStretch e rank) c.as_slice.result.now = subst (AllByRecursion (IsStretch e rank)) (sym c.as_slice.ensures.value)
    (all-from (IsStretch e rank) stretches (λ s h. is-stretch g.row.D e f.inverse scans is direction last c.args.cell.now c.cell_box-found.result.lows c.cell_box-found.result.highs c.cell_box-found.ensures rank b finds (item-at (IsBlock g.row.D) scans rank b is.scans.all inside at) s ((c.in_ok-stretches.ensures.has s).0 h))) in
    search (rules, all)

pub returns : goal.returns
returns g c =
    let f = c.args.frame.now in
    let e : Extent = record { table = f.pred.now; schedule = f.schedule.now; chunk = f.chunk } in
    let is = c.requires.frame in
    let direction : List ℤ = get_or c.direction.inside.rows (g.row.D - 1) [] in
    let past : length f.blocks.items ≤ c.loop-rank.rank = subst (λ (bs : List BlockScan). length bs ≤ c.loop-rank.rank) c.deref-block-items.ensures.value c.loop-rank-test.false in
    record {
      direction = direction;
      last = subst (λ rows. IsDirection g.row.D e.schedule (get_or rows (g.row.D - 1) [])) (sym c.direction.view_is) (is-direction g.row.D e.schedule c.columns.result.now is.some c.columns.ensures.inverse);
      runs = runs-end g.row.D e f.inverse f.blocks.items is direction c.args.cell.now c.loop-rank.rank c.loop-rank.runs.items past c.loop-rank.invariant;
    }
