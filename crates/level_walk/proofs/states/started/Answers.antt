use Rattle.std.proofs.Common.{subst, sym, length, ◌≤◌}
use Rattle.std.specs.Prelude.{IfSome}
use Rattle.level_walk.specs.Lattices.{in_cell}
use Rattle.level_walk.proofs.StateLaws.{front-small}
use Rattle.level_walk.proofs.states.started.Goals as goal

pub packed-requires-clause-front : goal.packed-requires-clause-front
packed-requires-clause-front c =
    subst (λ o. IfSome o (λ run. length run.front.items ≤ 6)) (sym c.run.ensures)
    (front-small (in_cell (length c.args.scan.now.levels) c.args.rows.now c.args.lows.now c.args.highs.now) c.walk_cell-walk.result.run c.walk_cell-walk.result.cursor c.requires.few c.walk_cell-walk.ensures.stands)
