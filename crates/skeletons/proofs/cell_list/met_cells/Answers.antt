use Rattle.std.proofs.Common.{rules, ◌≡◌, ◌∙◌, ◌<◌, ◌^◌, ℕ, pos, neg_ℤ, List, length, replicate, get_or, refl, sym, ap, subst, arith}
use Rattle.std.specs.Prelude.{◌↔◌}
use Rattle.std.specs.List.{AllByRecursion}
use Rattle.plain_lemmas.specs.Lists.{Has}
use Rattle.plain_lemmas.proofs.MembershipLaws.{all-from}
use Rattle.level_walk.specs.Walks.{IsBlock}
use Rattle.level_walk.specs.declared.runs.Run.{Run as Stretch}
use Rattle.level_walk.specs.declared.scans.BlockScan.{BlockScan}
use Rattle.skeletons.specs.Cells.{Cell, Extent}
use Rattle.skeletons.specs.CellLists.{Gains, IsCellAmong, IsMetBelow}
use Rattle.skeletons.specs.RunLists.{IsStretch}
use Rattle.skeletons.proofs.CellListLaws.{block-cells, far-box, far-stretch, none-met}
use Rattle.skeletons.proofs.RunListLaws.{finds-at, item-at}
use Rattle.skeletons.proofs.cell_list.met_cells.Goals as goal

pub runs-requires : goal.runs-requires
runs-requires g c =
    let f = c.args.frame.now in
    let e : Extent = record { table = f.pred.now; schedule = f.schedule.now; chunk = f.chunk } in
    let is = c.requires.frame in
    let scans = f.blocks.items in
    let rank = c.loop-rank.rank in
    let b = c.block-item.result in
    let inside : rank < length scans = subst (λ (bs : List BlockScan). rank < length bs) c.deref-block-items.ensures.value c.loop-rank-test.true in
    let at : b ≡ get_or scans rank b = subst (λ (bs : List BlockScan). b ≡ get_or bs rank b) c.deref-block-items.ensures.value c.block-item.is in
    let block : IsBlock g.row.D b = item-at (IsBlock g.row.D) scans rank b is.scans.all inside at in
    record { block = block; cell = far-box g.row.D e f.inverse scans is (replicate g.row.D (neg_ℤ (pos (2 ^ 59)))) (replicate g.row.D (pos (2 ^ 59))) refl refl }

pub push_block-requires : goal.push_block-requires
push_block-requires g c =
    let f = c.args.frame.now in
    let e : Extent = record { table = f.pred.now; schedule = f.schedule.now; chunk = f.chunk } in
    let is = c.requires.frame in
    let scans = f.blocks.items in
    let rank = c.loop-rank.rank in
    let b = c.block-item.result in
    let inside : rank < length scans = subst (λ (bs : List BlockScan). rank < length bs) c.deref-block-items.ensures.value c.loop-rank-test.true in
    let at : b ≡ get_or scans rank b = subst (λ (bs : List BlockScan). b ≡ get_or bs rank b) c.deref-block-items.ensures.value c.block-item.is in
    let block : IsBlock g.row.D b = item-at (IsBlock g.row.D) scans rank b is.scans.all inside at in
    let stretches = c.in_ok-stretches.stretches.items in
    let all : AllByRecursion (IsStretch e rank) c.as_slice.result.now = subst (AllByRecursion (IsStretch e rank)) (sym c.as_slice.ensures.value)
    (all-from (IsStretch e rank) stretches (λ s h. far-stretch g.row.D e f.inverse scans is (replicate g.row.D (neg_ℤ (pos (2 ^ 59)))) (replicate g.row.D (pos (2 ^ 59))) refl refl rank b (finds-at g.row.D e rank scans b is.finds inside at) block s ((c.in_ok-stretches.ensures.has s).0 h))) in
    search (rules, all)

pub loop-rank-init : goal.loop-rank-init
loop-rank-init g c =
    let f = c.args.frame.now in
    let e : Extent = record { table = f.pred.now; schedule = f.schedule.now; chunk = f.chunk } in
    subst (λ (cs : List Cell). (cell : Cell) → Has cs cell ↔ IsMetBelow e 0 cell) (sym c.new-cells.ensures.items) (none-met g.row.D e f.inverse f.blocks.items c.requires.frame)

pub loop-rank-preserved : goal.loop-rank-preserved
loop-rank-preserved g c =
    let f = c.args.frame.now in
    let e : Extent = record { table = f.pred.now; schedule = f.schedule.now; chunk = f.chunk } in
    let is = c.requires.frame in
    let scans = f.blocks.items in
    let rank = c.loop-rank.rank in
    let b = c.block-item.result in
    let inside : rank < length scans = subst (λ (bs : List BlockScan). rank < length bs) c.deref-block-items.ensures.value c.loop-rank-test.true in
    let at : b ≡ get_or scans rank b = subst (λ (bs : List BlockScan). b ≡ get_or bs rank b) c.deref-block-items.ensures.value c.block-item.is in
    let block : IsBlock g.row.D b = item-at (IsBlock g.row.D) scans rank b is.scans.all inside at in
    block-cells g.row.D e f.inverse scans is (replicate g.row.D (neg_ℤ (pos (2 ^ 59)))) (replicate g.row.D (pos (2 ^ 59))) refl refl rank b (finds-at g.row.D e rank scans b is.finds inside at) block
    c.in_ok-stretches.stretches.items c.loop-rank.cells.items c.push_block.new.cells.items c.in_ok-stretches.ensures c.loop-rank.invariant
    (subst (λ (ss : List Stretch). Gains (IsCellAmong e f.inverse ss) c.loop-rank.cells.items c.push_block.new.cells.items) c.as_slice.ensures.value c.in_ok-push_block.ensures)

pub returns : goal.returns
returns g c =
    let f = c.args.frame.now in
    let e : Extent = record { table = f.pred.now; schedule = f.schedule.now; chunk = f.chunk } in
    let past = c.loop-rank-test.false in
    let end = c.loop-rank.auto.rank-end in
    let same : c.loop-rank.rank ≡ length c.deref-block-items.result.now = omega (arith, past, end) in
    subst (λ (m : ℕ). (cell : Cell) → Has c.loop-rank.cells.items cell ↔ IsMetBelow e m cell) (same ∙ ap length c.deref-block-items.ensures.value) c.loop-rank.invariant
