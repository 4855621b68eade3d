use Rattle.std.proofs.Common.{rules, refl, ◌≡◌, ◌+◌, unsigned_abs, FitsSigned, w64}
use Rattle.std.proofs.lemmas.Int.{to_z-of_z}
use Rattle.nest_lang.specs.Traces.{Done}
use Rattle.nest_lang.specs.Loops.{inward}
use Rattle.block_exec.specs.Sites.{around_at}
use Rattle.block_exec.specs.Runs.{outside}
use Rattle.plain_interp.proofs.LevelLaws.{place-outermost, pos-unsigned_abs}
use Rattle.plain_interp.proofs.TurnLaws.{turn-moved}
use Rattle.plain_interp.proofs.outer.run_from.Goals as goal

pub returns-in-Ok-clause-ran : goal.returns-in-Ok-clause-ran
returns-in-Ok-clause-ran g c = λ k more.
    let at = c.args.at.now in
    let x = g.P.Port.expects c.args.run.now.port.now in
    let value : FitsSigned w64 c.args.value = c.ranges.value in
    let next : FitsSigned w64 c.args.outer.now.next = search rules in
    let inner : around_at 1 c.begin.new.self ≡ inward (around_at 0 c.new-places.result) (unsigned_abs c.args.outer.now.next) c.args.value = simp to_z-of_z at c.begin.ensures.inner in
    let place = place-outermost c.args.at.now.depth c.begin.new.self c.new-places.result (unsigned_abs c.args.outer.now.next) c.args.outer.now.next c.args.value c.requires.outermost inner (pos-unsigned_abs c.args.outer.now.next c.requires.turn) in
    turn-moved g.W.Watch.may x x k (at.depth + 1) at.first.now at.rest.now _ _ (outside g.P.Port.memory c.args.run.now) (outside g.P.Port.memory c.run_turn.new.run) Done refl place (c.in-Ok.ensures.ran k more)

pub returns-in-Err-clause-ran : goal.returns-in-Err-clause-ran
returns-in-Err-clause-ran g c = λ k more.
    let at = c.args.at.now in
    let x = g.P.Port.expects c.args.run.now.port.now in
    let value : FitsSigned w64 c.args.value = c.ranges.value in
    let next : FitsSigned w64 c.args.outer.now.next = search rules in
    let inner : around_at 1 c.begin.new.self ≡ inward (around_at 0 c.new-places.result) (unsigned_abs c.args.outer.now.next) c.args.value = simp to_z-of_z at c.begin.ensures.inner in
    let place = place-outermost c.args.at.now.depth c.begin.new.self c.new-places.result (unsigned_abs c.args.outer.now.next) c.args.outer.now.next c.args.value c.requires.outermost inner (pos-unsigned_abs c.args.outer.now.next c.requires.turn) in
    rw c.turned_of.ensures.finish (turn-moved g.W.Watch.may x x k (at.depth + 1) at.first.now at.rest.now _ _ (outside g.P.Port.memory c.args.run.now) (outside g.P.Port.memory c.run_turn.new.run) _ refl place (c.in-Err.ensures.ran k more))
