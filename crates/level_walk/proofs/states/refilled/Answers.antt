use Rattle.std.proofs.Common.{◌≤◌, length, subst, sym, refl, ◌∙◌}
use Rattle.std.specs.Prelude.{IfSome}
use Rattle.level_walk.specs.Lattices.{in_cell}
use Rattle.level_walk.proofs.StateLaws.{at-small, front-small, packed-stands, same-space, space_at, taken-left, taken-stands}
use Rattle.level_walk.proofs.states.refilled.Goals as goal

pub packed-requires-clause-at : goal.packed-requires-clause-at
packed-requires-clause-at c =
    let same = same-space c.resume_cell-walk.result.set c.take.new.self.set c.args.scan.now c.args.rows.now c.args.lows.now c.args.highs.now c.take.ensures.set c.resume_cell-walk.ensures.set in
    subst (λ place. length place.at ≤ 6) (sym c.cursor-2.ensures)
    (at-small (in_cell (length c.args.scan.now.levels) c.args.rows.now c.args.lows.now c.args.highs.now) c.take.new.self.run c.take.new.self.cursor c.requires.stands.few
    (taken-stands _ (space_at c.take.new.self.set) _ _ same c.take.ensures.stands))

pub packed-requires-clause-front : goal.packed-requires-clause-front
packed-requires-clause-front c =
    let same = same-space c.resume_cell-walk.result.set c.take.new.self.set c.args.scan.now c.args.rows.now c.args.lows.now c.args.highs.now c.take.ensures.set c.resume_cell-walk.ensures.set in
    subst (λ o. IfSome o (λ run. length run.front.items ≤ 6)) (sym c.run-2.ensures)
    (front-small (in_cell (length c.args.scan.now.levels) c.args.rows.now c.args.lows.now c.args.highs.now) c.take.new.self.run c.take.new.self.cursor c.requires.stands.few
    (taken-stands _ (space_at c.take.new.self.set) _ _ same c.take.ensures.stands))

pub returns-clause-stands : goal.returns-clause-stands
returns-clause-stands c =
    let same = same-space c.resume_cell-walk.result.set c.take.new.self.set c.args.scan.now c.args.rows.now c.args.lows.now c.args.highs.now c.take.ensures.set c.resume_cell-walk.ensures.set in
    packed-stands (in_cell (length c.args.scan.now.levels) c.args.rows.now c.args.lows.now c.args.highs.now) c.packed.result c.take.new.self.run c.take.new.self.cursor
    c.packed.ensures.depth c.packed.ensures.width c.requires.stands.few (c.packed.ensures.place ∙ c.cursor-2.ensures) (c.packed.ensures.run ∙ c.run-2.ensures)
    (taken-stands _ (space_at c.take.new.self.set) _ _ same c.take.ensures.stands)

pub returns-clause-left : goal.returns-clause-left
returns-clause-left c =
    let same = same-space c.resume_cell-walk.result.set c.take.new.self.set c.args.scan.now c.args.rows.now c.args.lows.now c.args.highs.now c.take.ensures.set c.resume_cell-walk.ensures.set in
    let before = same-space c.resume_cell-walk.result.set c.resume_cell-walk.result.set c.args.scan.now c.args.rows.now c.args.lows.now c.args.highs.now refl c.resume_cell-walk.ensures.set in
    taken-left (in_cell (length c.args.scan.now.levels) c.args.rows.now c.args.lows.now c.args.highs.now) (space_at c.take.new.self.set) c.take.new.self.run c.resume_cell-walk.result.run c.take.new.self.cursor c.resume_cell-walk.result.cursor
    c.args.state.now c.packed.result same (space_at c.resume_cell-walk.result.set) before c.take.ensures.left
    (c.resume_cell-walk.ensures.same.1 ∙ c.run.ensures) (c.resume_cell-walk.ensures.same.0 ∙ c.cursor.ensures)
    (c.packed.ensures.place ∙ c.cursor-2.ensures) (c.packed.ensures.run ∙ c.run-2.ensures)
