use Rattle.std.proofs.Common.{◌≡◌, subst, ap, ◌∙◌, List, map, get_or, refl}
use Rattle.level_walk.specs.declared.merges.Best.{Best}
use Rattle.level_walk.specs.declared.scans.BlockScan.{BlockScan}
use Rattle.level_walk.specs.Merges.{AllOrdered, merged}
use Rattle.level_walk.specs.Walks.{AllStand, all_left, all_points}
use Rattle.plain_lemmas.specs.Lists.{Has}
use Rattle.skeletons.specs.Cells.{Extent}
use Rattle.skeletons.specs.Frames.{instance_at}
use Rattle.skeletons.proofs.ListLaws.{entered, merged-has}
use Rattle.skeletons.proofs.tile_walk.Places.enter.Goals as goal

pub returns-clause-stands : goal.returns-clause-stands
returns-clause-stands g c =
    let s = c.requires.stands in
    let b = c.as_slice.ensures.value in
    let old = c.args.self.now in
    let f = old.frame.now in
    let e : Extent = record { table = f.pred.now; schedule = f.schedule.now; chunk = f.chunk } in
    let lows = c.cell_box-found.result.lows in
    let highs = c.cell_box-found.result.highs in
    let left = subst (λ (bs : List BlockScan). all_left lows highs bs c.start.new.states ≡ all_points lows highs bs) b c.start.ensures.left in
    record {
      frame = s.frame;
      few = s.few;
      inside = c.cell_box-found.ensures.is;
      stand = subst (λ (bs : List BlockScan). AllStand lows highs bs c.start.new.states) b c.start.ensures.stand;
      ordered = subst (λ (bs : List BlockScan). AllOrdered (all_left lows highs bs c.start.new.states)) b c.start.ensures.ordered;
      places = λ best h. (merged-has g.row.D e f.inverse f.blocks.items s.frame lows highs c.cell_box-found.ensures.is best (subst (λ (xs : List Best). Has xs best) (ap merged left) h)).0;
    }

pub returns-clause-rest : goal.returns-clause-rest
returns-clause-rest g c =
    let s = c.requires.stands in
    let b = c.as_slice.ensures.value in
    let old = c.args.self.now in
    let f = old.frame.now in
    let e : Extent = record { table = f.pred.now; schedule = f.schedule.now; chunk = f.chunk } in
    let lows = c.cell_box-found.result.lows in
    let highs = c.cell_box-found.result.highs in
    let left = subst (λ (bs : List BlockScan). all_left lows highs bs c.start.new.states ≡ all_points lows highs bs) b c.start.ensures.left in
    ap (map (instance_at e f.inverse)) (ap merged left)
    ∙ entered g.row.D e f.inverse f.blocks.items s.frame old.cells.now c.args.tile (get_or old.cells.now c.args.tile c.index-self-tile.result) c.index-self-tile.result lows highs c.requires.inside refl c.cell_box-found.ensures
