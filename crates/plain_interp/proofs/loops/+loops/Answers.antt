use Rattle.std.proofs.Common.{rules, arith, refl, ap, sym, subst, ◌∙◌, ◌≡◌, ◌+◌, ◌-◌, ◌<◌, ℕ, ℤ, pos, ◌∷◌, [], length, true, false, Some, None, Ok, Err, FitsSigned, w64, to_z, of_z}
use Rattle.std.proofs.lemmas.Int.{ints, to_z-of_z}
use Rattle.nest_lang.specs.Stores.{Store}
use Rattle.nest_lang.specs.Traces.{Trace, Done}
use Rattle.nest_lang.specs.Values.{turn_value}
use Rattle.nest_lang.specs.Heads.{Tested}
use Rattle.nest_lang.specs.Loops.{Around, loops_trace, turns_from, inward, frame_of}
use Rattle.block_exec.specs.Sites.{around_at}
use Rattle.block_exec.specs.Moments.{Moment, Ran}
use Rattle.block_exec.specs.Halts.{finish_of, bounds_yield}
use Rattle.block_exec.specs.Runs.{outside}
use Rattle.block_exec.proofs.PlaceLaws.{around-shallower}
use Rattle.block_exec.proofs.RunLaws.{finish-err, kept-trans}
use Rattle.plain_interp.specs.Levels.{level_trace}
use Rattle.plain_interp.proofs.BlockLaws.{instance-steps}
use Rattle.plain_interp.proofs.NestRuleLaws.{loop_keeps-strides, loop_keeps-body}
use Rattle.plain_interp.proofs.LevelLaws.{stride-not-0, inward-same, head-at, for-cut, while-cut, for-turns-moved}
use Rattle.plain_interp.proofs.TraceRunLaws.{ran-ends, turns-next, turns-out, turns-end, while-next, while-out, while-end}
use Rattle.plain_interp.proofs.TurnLaws.{for_turns, for-yields, turn-ran-before, turn-ran-inside, turn-moved, inner-moved, ran-no-loops, turn-ran-behind, while_frames, while_turns}
use Rattle.plain_interp.proofs.loops.+loops.Goals as goal
use Rattle.plain_interp.proofs.loops.+loops.Goals.{run_turn-in-Some+in_ok-run_loop, run_turn-in_default}

pub run_for-returns-in_err-run_turn-clause-places : goal.run_for-returns-in_err-run_turn-clause-places
run_for-returns-in_err-run_turn-clause-places g t c =
    around-shallower c.args.at.now.depth c.run_turn.new.places c.begin.new.self c.in_err-run_turn.ensures.places ∙ c.begin.ensures.outer ∙ c.loop-turn.invariant.places

pub run_for-loop-turn-preserved : goal.run_for-loop-turn-preserved
run_for-loop-turn-preserved g t c =
    let before = c.loop-turn.invariant in
    let at = c.args.at.now in
    let bounds = c.args.bounds in
    let x = g.P.Port.expects c.args.run.now.port.now in
    let place : Around = around_at at.depth c.args.places.now in
    let turns : ℕ → ℕ → Store → Trace = λ k. for_turns x k (at.depth + 1) at.first.now at.rest.now place bounds.stride bounds.lower in
    let start : Moment _ = outside g.P.Port.memory c.args.run.now in
    let here : Moment _ = outside g.P.Port.memory c.loop-turn.run in
    let next : Moment _ = outside g.P.Port.memory c.run_turn.new.run in
    let lower : FitsSigned w64 c.args.bounds.lower = search rules in
    let stride : FitsSigned w64 c.args.bounds.stride = search rules in
    let fits : FitsSigned w64 c.value_of_turn-value.result = search rules in
    let value : c.value_of_turn-value.result ≡ turn_value c.args.bounds.lower c.args.bounds.stride c.loop-turn.turn = simp to_z-of_z at c.value_of_turn-value.ensures in
    let inner : around_at (c.args.at.now.depth + 1) c.begin.new.self ≡ inward (around_at c.args.at.now.depth c.loop-turn.places) c.loop-turn.turn c.value_of_turn-value.result = simp to_z-of_z at c.begin.ensures.inner in
    let around = inner ∙ inward-same _ place c.loop-turn.turn _ (turn_value c.args.bounds.lower c.args.bounds.stride c.loop-turn.turn) before.places value in
    let stepped = c.in_ok-run_turn.ensures.stepped refl in
    record {
      few = omega (arith, stepped, before.few);
      kept = kept-trans _ _ _ _ _ before.kept c.in_ok-run_turn.ensures.kept;
      places = around-shallower at.depth c.run_turn.new.places c.begin.new.self c.in_ok-run_turn.ensures.places ∙ c.begin.ensures.outer ∙ before.places;
      leads = λ k more.
          let first = turn-moved g.W.Watch.may _ x k (at.depth + 1) at.first.now at.rest.now _ _ here next Done before.kept.expects_same around (c.in_ok-run_turn.ensures.ran k (omega (arith, more, before.few))) in
          turns-next g.W.Watch.may (turns k) bounds.trip c.loop-turn.turn here next (Ran g.W.Watch.may (turns_from bounds.trip 0 (turns k)) start) c.loop-turn-test.true first (before.leads k more);
    }

pub run_for-returns-in_err-run_turn-clause-ran : goal.run_for-returns-in_err-run_turn-clause-ran
run_for-returns-in_err-run_turn-clause-ran g t c = λ k more.
    let before = c.loop-turn.invariant in
    let at = c.args.at.now in
    let bounds = c.args.bounds in
    let x = g.P.Port.expects c.args.run.now.port.now in
    let place : Around = around_at at.depth c.args.places.now in
    let turns : ℕ → Store → Trace = for_turns x k (at.depth + 1) at.first.now at.rest.now place bounds.stride bounds.lower in
    let start : Moment _ = outside g.P.Port.memory c.args.run.now in
    let here : Moment _ = outside g.P.Port.memory c.loop-turn.run in
    let next : Moment _ = outside g.P.Port.memory c.run_turn.new.run in
    let lower : FitsSigned w64 c.args.bounds.lower = search rules in
    let stride : FitsSigned w64 c.args.bounds.stride = search rules in
    let fits : FitsSigned w64 c.value_of_turn-value.result = search rules in
    let value : c.value_of_turn-value.result ≡ turn_value c.args.bounds.lower c.args.bounds.stride c.loop-turn.turn = simp to_z-of_z at c.value_of_turn-value.ensures in
    let inner : around_at (c.args.at.now.depth + 1) c.begin.new.self ≡ inward (around_at c.args.at.now.depth c.loop-turn.places) c.loop-turn.turn c.value_of_turn-value.result = simp to_z-of_z at c.begin.ensures.inner in
    let around = inner ∙ inward-same _ place c.loop-turn.turn _ (turn_value c.args.bounds.lower c.args.bounds.stride c.loop-turn.turn) before.places value in
    let is : c.from_residual.result ≡ Err c.in_err-run_turn.field-0.0 = search rules in
    let last = turn-moved g.W.Watch.may _ x k (at.depth + 1) at.first.now at.rest.now _ _ here next _ before.kept.expects_same around (c.in_err-run_turn.ensures.ran k (omega (arith, more, before.few))) in
    rw is (turns-out g.W.Watch.may turns bounds.trip c.loop-turn.turn here next _ (Ran g.W.Watch.may (turns_from bounds.trip 0 turns) start) c.loop-turn-test.true last (finish-err c.in_err-run_turn.field-0.0 c.run_turn.new.run.halt) (before.leads k more))

pub run_for-returns-clause-ran : goal.run_for-returns-clause-ran
run_for-returns-clause-ran g t c = λ k more.
    let at = c.args.at.now in
    let bounds = c.args.bounds in
    let place : Around = around_at at.depth c.args.places.now in
    let turns : ℕ → Store → Trace = for_turns (g.P.Port.expects c.args.run.now.port.now) k (at.depth + 1) at.first.now at.rest.now place bounds.stride bounds.lower in
    turns-end g.W.Watch.may turns bounds.trip c.loop-turn.turn (outside g.P.Port.memory c.loop-turn.run) (Ran g.W.Watch.may (turns_from bounds.trip 0 turns) (outside g.P.Port.memory c.args.run.now)) c.loop-turn-test.false (c.loop-turn.invariant.leads k more)

pub run_loop-bounds_by-requires-clause-stride : goal.run_loop-bounds_by-requires-clause-stride
run_loop-bounds_by-requires-clause-stride g t c = λ zero.
    let stride : FitsSigned w64 c.in-For.stride = search rules in
    let same : to_z w64 (of_z w64 c.in-For.stride) ≡ c.in-For.stride = to_z-of_z w64 c.in-For.stride stride in
    stride-not-0 _ _ _ _ c.in-For.is (loop_keeps-strides c.args.at.now.first.now c.args.at.now.rest.now c.requires.level.keeps) (sym same ∙ zero)

pub run_loop-returns-in_err-bounds-in-For-clause-ran : goal.run_loop-returns-in_err-bounds-in-For-clause-ran
run_loop-returns-in_err-bounds-in-For-clause-ran g t c = λ k more.
    let at = c.args.at.now in
    let x = g.P.Port.expects c.args.run.now.port.now in
    let place : Around = around_at at.depth c.args.places.now in
    let stride : FitsSigned w64 c.in-For.stride = search rules in
    let is : c.from_residual.result ≡ Err c.in_err-bounds-in-For.field-0.0 = search rules in
    let head = head-at g.W.Watch.may c.site-site.result c.block.result x x (at.depth + 1) place place _ at.first.now.head (outside g.P.Port.memory c.args.run.now) (outside g.P.Port.memory c.bounds_by.new.self) _ c.site-site.ensures c.block.ensures refl refl (sym c.in-For.is) (simp to_z-of_z at c.in_err-bounds-in-For.ensures.evaluated) in
    rw is (for-cut g.W.Watch.may x k (at.depth + 1) at.first.now at.rest.now place _ _ c.in-For.stride bounds_yield c.in_err-bounds-in-For.field-0.0 c.bounds_by.new.self.halt (outside g.P.Port.memory c.args.run.now) (outside g.P.Port.memory c.bounds_by.new.self) c.in-For.is head)

pub run_loop-returns-in_ok-bounds-in-For-clause-ran : goal.run_loop-returns-in_ok-bounds-in-For-clause-ran
run_loop-returns-in_ok-bounds-in-For-clause-ran g t c = λ k more.
    let at = c.args.at.now in
    let x = g.P.Port.expects c.args.run.now.port.now in
    let place : Around = around_at at.depth c.args.places.now in
    let start : Moment _ = outside g.P.Port.memory c.args.run.now in
    let here : Moment _ = outside g.P.Port.memory c.bounds_by.new.self in
    let bounds = c.in_ok-bounds-in-For.bounds in
    let stride : FitsSigned w64 c.in-For.stride = search rules in
    let lower : FitsSigned w64 c.in_ok-bounds-in-For.bounds.lower = search rules in
    let step : FitsSigned w64 c.in_ok-bounds-in-For.bounds.stride = search rules in
    let head = head-at g.W.Watch.may c.site-site.result c.block.result x x (at.depth + 1) place place _ at.first.now.head start here _ c.site-site.ensures c.block.ensures refl refl (sym c.in-For.is) (simp to_z-of_z at c.in_ok-bounds-in-For.ensures.evaluated) in
    let same : bounds.stride ≡ c.in-For.stride = simp to_z-of_z at c.in_ok-bounds-in-For.ensures.turns.0 in
    let turns = c.run_for.ensures.ran k (omega (arith, more, c.in_ok-bounds-in-For.ensures.kept.fewer)) in
    for-yields g.W.Watch.may x k (at.depth + 1) at.first.now at.rest.now place _ _ c.in-For.stride bounds.lower bounds.trip start here (outside g.P.Port.memory c.run_for.new.run) _ c.in-For.is head
    (for-turns-moved g.W.Watch.may _ x k (at.depth + 1) at.first.now at.rest.now place bounds.stride c.in-For.stride bounds.lower bounds.trip here (outside g.P.Port.memory c.run_for.new.run) _ c.in_ok-bounds-in-For.ensures.kept.expects_same same turns)

pub run_turn-returns-in_err-run_part-clause-ran : goal.run_turn-returns-in_err-run_part-clause-ran
run_turn-returns-in_err-run_part-clause-ran g t c = λ k more.
    let at = c.args.at.now in
    let x = g.P.Port.expects c.args.run.now.port.now in
    let place : Around = around_at (at.depth + 1) c.args.places.now in
    let is : c.from_residual.result ≡ Err c.in_err-run_part.field-0.0 = search rules in
    let before = rw c.as_slice-pre.ensures at c.in_err-run_part.ensures.ran in
    rw is (turn-ran-before g.W.Watch.may x (at.depth + 1) at.first.now (loops_trace x k (at.depth + 1 + 1) at.rest.now) place (outside g.P.Port.memory c.args.run.now) (outside g.P.Port.memory c.run_part.new.run) _ before (finish-err c.in_err-run_part.field-0.0 c.run_part.new.run.halt))

pub run_turn-returns-in_err-run_loop-clause-ran : goal.run_turn-returns-in_err-run_loop-clause-ran
run_turn-returns-in_err-run_loop-clause-ran g t c = λ k more.
    let at = c.args.at.now in
    let x = g.P.Port.expects c.args.run.now.port.now in
    let place : Around = around_at (at.depth + 1) c.args.places.now in
    let start : Moment _ = outside g.P.Port.memory c.args.run.now in
    let here : Moment _ = outside g.P.Port.memory c.run_part.new.run in
    let next : Moment _ = outside g.P.Port.memory c.run_loop.new.run in
    let is : c.from_residual-in_err-run_loop.result ≡ Err c.in_err-run_loop.field-0.0 = search rules in
    let loops : c.in-Some.first.now ∷ c.in-Some.rest.now ≡ at.rest.now = search rules in
    let before = rw c.as_slice-pre.ensures at c.in_ok-run_part.ensures.ran in
    let inside = inner-moved g.W.Watch.may _ x k (at.depth + 1 + 1) _ at.rest.now place here next _ c.in_ok-run_part.ensures.kept.expects_same loops (c.in_err-run_loop.ensures.ran k (omega (arith, more, c.in_ok-run_part.ensures.kept.fewer))) in
    rw is (turn-ran-inside g.W.Watch.may x (at.depth + 1) at.first.now (loops_trace x k (at.depth + 1 + 1) at.rest.now) place start here next _ before inside (finish-err c.in_err-run_loop.field-0.0 c.run_loop.new.run.halt))

pub run_turn-returns-clause-ran : goal.run_turn-returns-clause-ran
run_turn-returns-clause-ran g t c = λ k more.
    let at = c.args.at.now in
    let x = g.P.Port.expects c.args.run.now.port.now in
    let place : Around = around_at (at.depth + 1) c.args.places.now in
    let inner : Around → Store → Trace = loops_trace x k (at.depth + 1 + 1) at.rest.now in
    let start : Moment _ = outside g.P.Port.memory c.args.run.now in
    let here : Moment _ = outside g.P.Port.memory c.run_part.new.run in
    let last : Moment _ = outside g.P.Port.memory c.match-split_first.run in
    let end : Moment _ = outside g.P.Port.memory c.run_part-2.new.run in
    let before = rw c.as_slice-pre.ensures at c.in_ok-run_part.ensures.ran in
    elim c.match-split_first.branch [
      | run_turn-in-Some+in_ok-run_loop w ↦
          let next : Moment _ = outside g.P.Port.memory w.run_loop.new.run in
          let loops : w.in-Some.first.now ∷ w.in-Some.rest.now ≡ at.rest.now = search rules in
          let inside = inner-moved g.W.Watch.may _ x k (at.depth + 1 + 1) _ at.rest.now place here next Done c.in_ok-run_part.ensures.kept.expects_same loops (w.in_ok-run_loop.ensures.ran k (omega (arith, more, c.in_ok-run_part.ensures.kept.fewer))) in
          let expects = ap (λ r. g.P.Port.expects r.port.now) w.run-is ∙ w.in_ok-run_loop.ensures.kept.expects_same ∙ c.in_ok-run_part.ensures.kept.expects_same in
          let around = ap (around_at (at.depth + 1)) w.places-is ∙ w.in_ok-run_loop.ensures.places in
          turn-ran-behind g.W.Watch.may _ x (at.depth + 1) at.first.now inner _ place c.as_slice-post.result.now start here last next end _ expects around c.as_slice-post.ensures (ap (outside g.P.Port.memory) w.run-is) before inside c.run_part-2.ensures.ran
      | run_turn-in_default w ↦
          let none : length at.rest.now ≡ 0 = search rules in
          let expects = ap (λ r. g.P.Port.expects r.port.now) w.run-is ∙ c.in_ok-run_part.ensures.kept.expects_same in
          let around = ap (around_at (at.depth + 1)) w.places-is in
          turn-ran-behind g.W.Watch.may _ x (at.depth + 1) at.first.now inner _ place c.as_slice-post.result.now start here last here end _ expects around c.as_slice-post.ensures (ap (outside g.P.Port.memory) w.run-is) before
          (ran-no-loops g.W.Watch.may x k (at.depth + 1 + 1) at.rest.now place here none) c.run_part-2.ensures.ran
    ]

pub run_turn-returns-clause-stepped : goal.run_turn-returns-clause-stepped
run_turn-returns-clause-stepped g t c = λ ok.
    let at = c.args.at.now in
    elim c.match-split_first.branch [
      | run_turn-in-Some+in_ok-run_loop w ↦
          let same = ap (λ r. r.steps.left) w.run-is in
          let stepped = w.in_ok-run_loop.ensures.stepped refl in
          omega (arith, same, stepped, c.in_ok-run_part.ensures.kept.fewer, c.run_part-2.ensures.kept.fewer)
      | run_turn-in_default w ↦
          let same = ap (λ r. r.steps.left) w.run-is in
          let none : length at.rest.now ≡ 0 = search rules in
          let body : 0 < length c.as_slice-pre.result.now = subst (λ (n : ℕ). 0 < n) (sym (ap length c.as_slice-pre.ensures)) (loop_keeps-body at.first.now at.rest.now none c.requires.level.keeps) in
          let stepped = instance-steps g.W.Watch.may _ c.as_slice-pre.result.now (outside g.P.Port.memory c.args.run.now) (outside g.P.Port.memory c.run_part.new.run) Done c.in_ok-run_part.ensures.ran body refl in
          omega (arith, same, stepped, c.run_part-2.ensures.kept.fewer)
    ]

pub run_while-returns-in_err-condition_by-clause-ran : goal.run_while-returns-in_err-condition_by-clause-ran
run_while-returns-in_err-condition_by-clause-ran g t c = λ k more.
    let before = c.turns.invariant in
    let at = c.args.at.now in
    let x = g.P.Port.expects c.args.run.now.port.now in
    let place : Around = around_at at.depth c.args.places.now in
    let start : Moment _ = outside g.P.Port.memory c.args.run.now in
    let here : Moment _ = outside g.P.Port.memory c.turns.run in
    let mid : Moment _ = outside g.P.Port.memory c.condition_by.new.self in
    let number : to_z w64 c.turns.turn ≡ pos c.turns.turn = omega (arith, ints, before.few, c.requires.steps) in
    let inner : around_at (c.args.at.now.depth + 1) c.begin.new.self ≡ inward (around_at c.args.at.now.depth c.turns.places) c.turns.turn (pos c.turns.turn) = rw number at c.begin.ensures.inner in
    let around = inner ∙ inward-same _ place c.turns.turn _ (pos c.turns.turn) before.places refl in
    let is : c.from_residual.result ≡ Err c.in_err-condition_by.field-0.0 = search rules in
    let head = head-at g.W.Watch.may c.site-site.result c.block.result _ x (at.depth + 1) _ (inward place c.turns.turn (pos c.turns.turn)) _ at.first.now.head here mid _ c.site-site.ensures c.block.ensures before.kept.expects_same around (sym c.requires.head) c.in_err-condition_by.ensures.evaluated in
    rw is (while-cut g.W.Watch.may (while_frames x (at.depth + 1) place) at.first.now.head (while_turns x k (at.depth + 1) at.first.now at.rest.now place) k c.turns.turn here mid Tested c.in_err-condition_by.field-0.0 c.condition_by.new.self.halt (Ran g.W.Watch.may (level_trace x at place k) start) (omega (arith, more, before.few)) head (before.leads k more))

pub run_while-returns-then-not-branch-clause-ran : goal.run_while-returns-then-not-branch-clause-ran
run_while-returns-then-not-branch-clause-ran g t c = λ k more.
    let before = c.turns.invariant in
    let at = c.args.at.now in
    let x = g.P.Port.expects c.args.run.now.port.now in
    let place : Around = around_at at.depth c.args.places.now in
    let start : Moment _ = outside g.P.Port.memory c.args.run.now in
    let here : Moment _ = outside g.P.Port.memory c.turns.run in
    let mid : Moment _ = outside g.P.Port.memory c.condition_by.new.self in
    let number : to_z w64 c.turns.turn ≡ pos c.turns.turn = omega (arith, ints, before.few, c.requires.steps) in
    let inner : around_at (c.args.at.now.depth + 1) c.begin.new.self ≡ inward (around_at c.args.at.now.depth c.turns.places) c.turns.turn (pos c.turns.turn) = rw number at c.begin.ensures.inner in
    let around = inner ∙ inward-same _ place c.turns.turn _ (pos c.turns.turn) before.places refl in
    let holds : c.in_ok-condition_by.field-0 ≡ false = search rules in
    let head = head-at g.W.Watch.may c.site-site.result c.block.result _ x (at.depth + 1) _ (inward place c.turns.turn (pos c.turns.turn)) _ at.first.now.head here mid _ c.site-site.ensures c.block.ensures before.kept.expects_same around (sym c.requires.head) (rw holds at c.in_ok-condition_by.ensures.evaluated) in
    while-end g.W.Watch.may (while_frames x (at.depth + 1) place) at.first.now.head (while_turns x k (at.depth + 1) at.first.now at.rest.now place) k c.turns.turn here mid (Ran g.W.Watch.may (level_trace x at place k) start) (omega (arith, more, before.few)) head (before.leads k more)

pub run_while-returns-in_err-run_turn-clause-ran : goal.run_while-returns-in_err-run_turn-clause-ran
run_while-returns-in_err-run_turn-clause-ran g t c = λ k more.
    let before = c.turns.invariant in
    let at = c.args.at.now in
    let x = g.P.Port.expects c.args.run.now.port.now in
    let place : Around = around_at at.depth c.args.places.now in
    let start : Moment _ = outside g.P.Port.memory c.args.run.now in
    let here : Moment _ = outside g.P.Port.memory c.turns.run in
    let mid : Moment _ = outside g.P.Port.memory c.condition_by.new.self in
    let next : Moment _ = outside g.P.Port.memory c.run_turn.new.run in
    let number : to_z w64 c.turns.turn ≡ pos c.turns.turn = omega (arith, ints, before.few, c.requires.steps) in
    let inner : around_at (c.args.at.now.depth + 1) c.begin.new.self ≡ inward (around_at c.args.at.now.depth c.turns.places) c.turns.turn (pos c.turns.turn) = rw number at c.begin.ensures.inner in
    let around = inner ∙ inward-same _ place c.turns.turn _ (pos c.turns.turn) before.places refl in
    let holds : c.in_ok-condition_by.field-0 ≡ true = search rules in
    let head = head-at g.W.Watch.may c.site-site.result c.block.result _ x (at.depth + 1) _ (inward place c.turns.turn (pos c.turns.turn)) _ at.first.now.head here mid _ c.site-site.ensures c.block.ensures before.kept.expects_same around (sym c.requires.head) (rw holds at c.in_ok-condition_by.ensures.evaluated) in
    let is : c.from_residual-in_err-run_turn.result ≡ Err c.in_err-run_turn.field-0.0 = search rules in
    let last = turn-moved g.W.Watch.may _ x k (at.depth + 1) at.first.now at.rest.now _ _ mid next _ (c.in_ok-condition_by.ensures.kept.expects_same ∙ before.kept.expects_same) around (c.in_err-run_turn.ensures.ran k (omega (arith, more, before.few, c.in_ok-condition_by.ensures.kept.fewer))) in
    rw is (while-out g.W.Watch.may (while_frames x (at.depth + 1) place) at.first.now.head (while_turns x k (at.depth + 1) at.first.now at.rest.now place) k c.turns.turn here mid next _ (Ran g.W.Watch.may (level_trace x at place k) start) (omega (arith, more, before.few)) head last (finish-err c.in_err-run_turn.field-0.0 c.run_turn.new.run.halt) (before.leads k more))

pub run_while-returns-in_err-run_turn-clause-places : goal.run_while-returns-in_err-run_turn-clause-places
run_while-returns-in_err-run_turn-clause-places g t c =
    around-shallower c.args.at.now.depth c.run_turn.new.places c.begin.new.self c.in_err-run_turn.ensures.places ∙ c.begin.ensures.outer ∙ c.turns.invariant.places

pub run_while-turns-preserved : goal.run_while-turns-preserved
run_while-turns-preserved g t c =
    let before = c.turns.invariant in
    let at = c.args.at.now in
    let x = g.P.Port.expects c.args.run.now.port.now in
    let place : Around = around_at at.depth c.args.places.now in
    let start : Moment _ = outside g.P.Port.memory c.args.run.now in
    let here : Moment _ = outside g.P.Port.memory c.turns.run in
    let mid : Moment _ = outside g.P.Port.memory c.condition_by.new.self in
    let next : Moment _ = outside g.P.Port.memory c.run_turn.new.run in
    let number : to_z w64 c.turns.turn ≡ pos c.turns.turn = omega (arith, ints, before.few, c.requires.steps) in
    let inner : around_at (c.args.at.now.depth + 1) c.begin.new.self ≡ inward (around_at c.args.at.now.depth c.turns.places) c.turns.turn (pos c.turns.turn) = rw number at c.begin.ensures.inner in
    let around = inner ∙ inward-same _ place c.turns.turn _ (pos c.turns.turn) before.places refl in
    let holds : c.in_ok-condition_by.field-0 ≡ true = search rules in
    let head = head-at g.W.Watch.may c.site-site.result c.block.result _ x (at.depth + 1) _ (inward place c.turns.turn (pos c.turns.turn)) _ at.first.now.head here mid _ c.site-site.ensures c.block.ensures before.kept.expects_same around (sym c.requires.head) (rw holds at c.in_ok-condition_by.ensures.evaluated) in
    let stepped = c.in_ok-run_turn.ensures.stepped refl in
    record {
      few = omega (arith, stepped, before.few, c.in_ok-condition_by.ensures.kept.fewer);
      kept = kept-trans _ _ _ _ _ before.kept (kept-trans _ _ _ _ _ c.in_ok-condition_by.ensures.kept c.in_ok-run_turn.ensures.kept);
      places = around-shallower at.depth c.run_turn.new.places c.begin.new.self c.in_ok-run_turn.ensures.places ∙ c.begin.ensures.outer ∙ before.places;
      leads = λ k more.
          let first = turn-moved g.W.Watch.may _ x k (at.depth + 1) at.first.now at.rest.now _ _ mid next Done (c.in_ok-condition_by.ensures.kept.expects_same ∙ before.kept.expects_same) around (c.in_ok-run_turn.ensures.ran k (omega (arith, more, before.few, c.in_ok-condition_by.ensures.kept.fewer))) in
          while-next g.W.Watch.may (while_frames x (at.depth + 1) place) at.first.now.head (while_turns x k (at.depth + 1) at.first.now at.rest.now place) k c.turns.turn here mid next (Ran g.W.Watch.may (level_trace x at place k) start) (omega (arith, more, before.few)) head first (before.leads k more);
    }
