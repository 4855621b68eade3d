use Rattle.std.proofs.Common.{unsigned_abs, rules, arith, refl, ap, sym, ◌∙◌, ◌≡◌, pos, ◌∷◌, [], true, false, Some, FitsSigned, w64}
use Rattle.std.proofs.lemmas.Int.{to_z-of_z}
use Rattle.nest_lang.specs.Values.{turn_value}
use Rattle.nest_lang.specs.Heads.{Tested}
use Rattle.nest_lang.specs.Loops.{inward}
use Rattle.nest_lang.specs.Loops as loops
use Rattle.nest_lang.specs.Turns.{finish_of_turned}
use Rattle.block_exec.specs.Sites.{around_at}
use Rattle.block_exec.specs.Runs.{outside}
use Rattle.plain_interp.proofs.LevelLaws.{head-at, place-tested, level_turn-outermost, ran-while-cut}
use Rattle.plain_interp.proofs.OuterTurnLaws.{ran-for-over, ran-for-some, ran-turn-of, ran-while-turn, ran-while-over, position-for, position-while, position-kept, while-head}
use Rattle.plain_interp.proofs.outer.run_next.Goals as goal

pub returns-then-eq-clause-ran : goal.returns-then-eq-clause-ran
returns-then-eq-clause-ran g c = λ k more.
    let none : c.args.outer.now.left ≡ Some 0 = search rules in
    ran-for-over g.W.Watch.may (g.P.Port.expects c.args.run.now.port.now) k c.args.at.now.first.now c.args.at.now.rest.now c.args.outer.now _ _ c.in-For.stride (outside g.P.Port.memory c.args.run.now) c.in-For.is none

pub returns-else-eq-clause-ran : goal.returns-else-eq-clause-ran
returns-else-eq-clause-ran g c = λ k more.
    let at = c.args.at.now in
    let x = g.P.Port.expects c.args.run.now.port.now in
    let p = position-for c.args.at.now.first.now.head _ _ c.in-For.stride c.args.outer.now c.in-For.is c.requires.position in
    let some : c.args.outer.now.left ≡ Some 0 → ⊥ = search rules in
    let lower : FitsSigned w64 c.args.outer.now.lower = search rules in
    let stride : FitsSigned w64 c.in-For.stride = search rules in
    let next : FitsSigned w64 c.args.outer.now.next = search rules in
    let result : FitsSigned w64 c.value_of_turn-value.result = search rules in
    let number : unsigned_abs c.args.outer.now.next ≡ p.0 = ap unsigned_abs p.2 in
    let value : c.value_of_turn-value.result ≡ turn_value c.args.outer.now.lower c.in-For.stride p.0 = (simp to_z-of_z at c.value_of_turn-value.ensures) ∙ ap (turn_value c.args.outer.now.lower c.in-For.stride) number in
    let start = outside g.P.Port.memory c.args.run.now in
    let end = outside g.P.Port.memory c.run_from.new.run in
    let run = level_turn-outermost g.W.Watch.may x k at (record { counters = c.args.outer.now.next ∷ []; values = c.value_of_turn-value.result ∷ [] }) start end (finish_of_turned c.run_from.result) c.requires.outermost (simp to_z-of_z at (c.run_from.ensures.ran k more)) in
    ran-for-some g.W.Watch.may x k at.first.now at.rest.now c.args.outer.now _ _ c.in-For.stride p.0 p.1 start end (finish_of_turned c.run_from.result) c.in-For.is p.2 p.3 some
    (ran-turn-of g.W.Watch.may x x k at.first.now at.rest.now p.0 c.args.outer.now.next c.value_of_turn-value.result (turn_value c.args.outer.now.lower c.in-For.stride p.0) start end (finish_of_turned c.run_from.result) refl p.2 value run)

pub returns-else-eq-clause-position : goal.returns-else-eq-clause-position
returns-else-eq-clause-position g c =
    position-kept c.args.at.now.first.now.head c.args.outer.now c.run_from.new.outer c.run_from.result (λ went. (c.run_from.ensures.went went).0) c.run_from.ensures.others c.requires.position

pub returns-in-Ok-true-clause-ran : goal.returns-in-Ok-true-clause-ran
returns-in-Ok-true-clause-ran g c = λ k more.
    let at = c.args.at.now in
    let x = g.P.Port.expects c.args.run.now.port.now in
    let p = position-while c.args.at.now.first.now.head _ c.args.outer.now c.in-While.is c.requires.position in
    let is = while-head c.args.at.now.first.now.head _ c.in-While.is in
    let next : FitsSigned w64 c.args.outer.now.next = search rules in
    let inner : around_at 1 c.begin.new.self ≡ inward (around_at 0 c.new-places.result) (unsigned_abs c.args.outer.now.next) c.args.outer.now.next = simp to_z-of_z at c.begin.ensures.inner in
    let place = place-tested c.begin.new.self c.new-places.result (unsigned_abs c.args.outer.now.next) p.0 c.args.outer.now.next inner (ap unsigned_abs p.1) p.1 in
    let holds : c.in-Ok-true.field-0 ≡ true = search rules in
    let start = outside g.P.Port.memory c.args.run.now in
    let mid = outside g.P.Port.memory c.condition.new.self in
    let end = outside g.P.Port.memory c.run_from-in-Ok-true.new.run in
    let head = head-at g.W.Watch.may c.site.result _ x x 1 _ (inward loops.outside p.0 (pos p.0)) _ at.first.now.head start mid _ c.site.ensures refl refl place (sym c.in-While.is) (rw holds at c.in-Ok-true.ensures.evaluated) in
    let run = level_turn-outermost g.W.Watch.may _ k at (record { counters = c.args.outer.now.next ∷ []; values = c.args.outer.now.next ∷ [] }) mid end (finish_of_turned c.run_from-in-Ok-true.result) c.requires.outermost (simp to_z-of_z at (c.run_from-in-Ok-true.ensures.ran k (omega (arith, more, c.in-Ok-true.ensures.kept.fewer)))) in
    ran-while-turn g.W.Watch.may x k at.first.now at.rest.now c.args.outer.now p.0 start mid end (finish_of_turned c.run_from-in-Ok-true.result) is p.1 head
    (ran-turn-of g.W.Watch.may _ x k at.first.now at.rest.now p.0 c.args.outer.now.next c.args.outer.now.next (pos p.0) mid end (finish_of_turned c.run_from-in-Ok-true.result) c.in-Ok-true.ensures.kept.expects_same p.1 p.1 run)

pub returns-in-Ok-false-clause-ran : goal.returns-in-Ok-false-clause-ran
returns-in-Ok-false-clause-ran g c = λ k more.
    let at = c.args.at.now in
    let x = g.P.Port.expects c.args.run.now.port.now in
    let p = position-while c.args.at.now.first.now.head _ c.args.outer.now c.in-While.is c.requires.position in
    let is = while-head c.args.at.now.first.now.head _ c.in-While.is in
    let next : FitsSigned w64 c.args.outer.now.next = search rules in
    let inner : around_at 1 c.begin.new.self ≡ inward (around_at 0 c.new-places.result) (unsigned_abs c.args.outer.now.next) c.args.outer.now.next = simp to_z-of_z at c.begin.ensures.inner in
    let place = place-tested c.begin.new.self c.new-places.result (unsigned_abs c.args.outer.now.next) p.0 c.args.outer.now.next inner (ap unsigned_abs p.1) p.1 in
    let holds : c.in-Ok-false.field-0 ≡ false = search rules in
    let start = outside g.P.Port.memory c.args.run.now in
    let mid = outside g.P.Port.memory c.condition.new.self in
    let head = head-at g.W.Watch.may c.site.result _ x x 1 _ (inward loops.outside p.0 (pos p.0)) _ at.first.now.head start mid _ c.site.ensures refl refl place (sym c.in-While.is) (rw holds at c.in-Ok-false.ensures.evaluated) in
    ran-while-over g.W.Watch.may x k at.first.now at.rest.now c.args.outer.now p.0 start mid is p.1 head

pub returns-in-Err-clause-ran : goal.returns-in-Err-clause-ran
returns-in-Err-clause-ran g c = λ k more.
    let at = c.args.at.now in
    let x = g.P.Port.expects c.args.run.now.port.now in
    let p = position-while c.args.at.now.first.now.head _ c.args.outer.now c.in-While.is c.requires.position in
    let is = while-head c.args.at.now.first.now.head _ c.in-While.is in
    let next : FitsSigned w64 c.args.outer.now.next = search rules in
    let inner : around_at 1 c.begin.new.self ≡ inward (around_at 0 c.new-places.result) (unsigned_abs c.args.outer.now.next) c.args.outer.now.next = simp to_z-of_z at c.begin.ensures.inner in
    let place = place-tested c.begin.new.self c.new-places.result (unsigned_abs c.args.outer.now.next) p.0 c.args.outer.now.next inner (ap unsigned_abs p.1) p.1 in
    let start = outside g.P.Port.memory c.args.run.now in
    let mid = outside g.P.Port.memory c.condition.new.self in
    let head = head-at g.W.Watch.may c.site.result _ x x 1 _ (inward loops.outside p.0 (pos p.0)) _ at.first.now.head start mid _ c.site.ensures refl refl place (sym c.in-While.is) c.in-Err.ensures.evaluated in
    rw c.turned_of.ensures.finish (ran-while-cut g.W.Watch.may x k at.first.now at.rest.now c.args.outer.now p.0 start mid Tested c.in-Err.cut c.condition.new.self.halt is p.1 head)
