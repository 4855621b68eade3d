use Rattle.std.proofs.Common.{rules, arith, refl, ap, sym, subst, ◌∙◌, ◌≡◌, ◌+◌, ◌<◌, ℕ, pos, ◌+ℤ◌, ◌∷◌, length, FitsSigned, w64}
use Rattle.nest_lang.specs.declared.state.Outer.{Outer}
use Rattle.nest_lang.specs.Traces.{Finish, Done}
use Rattle.nest_lang.specs.Turns.{turns_trace, turns_later, finish_of_turned, AreWhole}
use Rattle.block_exec.specs.Moments.{Ran}
use Rattle.block_exec.specs.Runs.{outside}
use Rattle.block_exec.proofs.RunLaws.{kept-trans}
use Rattle.plain_interp.proofs.NestLaws.{loops_keep-some, nest-level}
use Rattle.plain_interp.proofs.PositionLaws.{position-outermost, position-nest, position-next}
use Rattle.plain_interp.proofs.OuterTurnLaws.{turns-moved, turns_later-none, turns_later-more, ran-no-turns, number-more, number-kept, finish_of_turned-not, ran-turns-more, ran-turns-out, whole-turns-all, whole-turns-some}
use Rattle.plain_interp.proofs.outer.run_turns.Goals as goal

pub unreachable-requires : goal.unreachable-requires
unreachable-requires g c =
    let none : length c.args.nest.now.loops ≡ 0 = ap length (sym c.as_slice.ensures) ∙ search rules in
    loops_keep-some c.args.nest.now.loops none c.requires.rules

pub run_next-requires-clause-level : goal.run_next-requires-clause-level
run_next-requires-clause-level g c =
    let loops : c.args.nest.now.loops ≡ c.in-Some.first.now ∷ c.in-Some.rest.now = search rules in
    nest-level c.args.nest.now.loops _ refl loops c.requires.rules tt

pub run_next-requires-clause-position : goal.run_next-requires-clause-position
run_next-requires-clause-position g c =
    let loops : c.args.nest.now.loops ≡ c.in-Some.first.now ∷ c.in-Some.rest.now = search rules in
    position-outermost c.args.nest.now.loops c.in-Some.first.now c.in-Some.rest.now c.loop-done.outer loops c.loop-done.invariant.position

pub loop-done-init : goal.loop-done-init
loop-done-init g c =
    let next = position-next c.args.nest.now.loops c.args.outer.now c.requires.position in
    record {
      outer = turns_later-none c.args.outer.now next.0 next.1;
      position = c.requires.position;
      number = c.requires.number;
      kept = record {
        expects_same = refl;
        basis_same = refl;
        scalars_same = refl;
        port_same = refl;
        watch_same = refl;
        count = refl;
        steps = refl;
        fewer = omega arith;
        quiet = λ plain trap. tt;
      };
      halt = tt;
      so_far = λ k more. ran-no-turns g.W.Watch.may (g.P.Port.expects c.args.run.now.port.now) k c.args.nest.now.loops c.args.outer.now next.0 next.1 (outside g.P.Port.memory c.args.run.now);
    }

pub loop-done-preserved : goal.loop-done-preserved
loop-done-preserved g c =
    let before = c.loop-done.invariant in
    let x = g.P.Port.expects c.args.run.now.port.now in
    let loops : c.args.nest.now.loops ≡ c.in-Some.first.now ∷ c.in-Some.rest.now = search rules in
    let next = position-next c.args.nest.now.loops c.args.outer.now c.requires.position in
    let here = position-next c.args.nest.now.loops c.loop-done.outer before.position in
    let one : (k : ℕ) → c.args.run.now.steps.left < k → Ran g.W.Watch.may (turns_trace (g.P.Port.expects c.args.run.now.port.now) k c.args.nest.now.loops (turns_later c.args.outer.now c.loop-done._done) 1) (outside g.P.Port.memory c.loop-done.run) (outside g.P.Port.memory c.run_next.new.run) (finish_of_turned c.run_next.result) = λ k more.
    turns-moved g.W.Watch.may _ x k _ c.args.nest.now.loops c.loop-done.outer (turns_later c.args.outer.now c.loop-done._done) 1 (outside g.P.Port.memory c.loop-done.run) (outside g.P.Port.memory c.run_next.new.run) (finish_of_turned c.run_next.result) before.kept.expects_same (sym loops) before.outer (c.run_next.ensures.ran k (omega (arith, more, before.kept.fewer))) in
    let went = c.run_next.ensures.went c.in-Went.is in
    record {
      outer = went.0 ∙ ap (λ (o : Outer). turns_later o 1) before.outer ∙ turns_later-more c.args.outer.now c.loop-done._done;
      position = position-nest c.args.nest.now.loops c.in-Some.first.now c.in-Some.rest.now c.run_next.new.outer loops c.run_next.ensures.position;
      number = subst (λ (o : Outer). FitsSigned w64 (o.next +ℤ pos c.run_next.new.run.steps.left)) (sym went.0) (number-more c.loop-done.outer c.loop-done.run.steps.left c.run_next.new.run.steps.left here.0 here.1 went.1 before.number);
      kept = kept-trans _ _ _ _ _ before.kept c.run_next.ensures.kept;
      halt = c.run_next.ensures.kept.quiet (ap (λ y. y.verifies) before.kept.expects_same ∙ c.requires.plain) before.halt;
      so_far = λ k more. subst (λ (e : Finish). Ran g.W.Watch.may (turns_trace x k c.args.nest.now.loops c.args.outer.now (c.loop-done._done + 1)) (outside g.P.Port.memory c.args.run.now) (outside g.P.Port.memory c.run_next.new.run) e) (ap finish_of_turned c.in-Went.is)
          (ran-turns-more g.W.Watch.may x k c.args.nest.now.loops c.args.outer.now next.0 next.1 c.loop-done._done (outside g.P.Port.memory c.args.run.now) (outside g.P.Port.memory c.loop-done.run) (outside g.P.Port.memory c.run_next.new.run) (finish_of_turned c.run_next.result) (before.so_far k more) (one k more));
    }

pub returns-in_default-run_next : goal.returns-in_default-run_next
returns-in_default-run_next g c =
    let before = c.loop-done.invariant in
    let x = g.P.Port.expects c.args.run.now.port.now in
    let start = outside g.P.Port.memory c.args.run.now in
    let mid = outside g.P.Port.memory c.loop-done.run in
    let end = outside g.P.Port.memory c.run_next.new.run in
    let loops : c.args.nest.now.loops ≡ c.in-Some.first.now ∷ c.in-Some.rest.now = search rules in
    let next = position-next c.args.nest.now.loops c.args.outer.now c.requires.position in
    let here = position-next c.args.nest.now.loops c.loop-done.outer before.position in
    let all : (k : ℕ) → c.args.run.now.steps.left < k → Ran g.W.Watch.may (turns_trace (g.P.Port.expects c.args.run.now.port.now) k c.args.nest.now.loops c.args.outer.now (c.loop-done._done + 1)) (outside g.P.Port.memory c.args.run.now) (outside g.P.Port.memory c.run_next.new.run) (finish_of_turned c.run_next.result) = λ k more.
    ran-turns-more g.W.Watch.may x k c.args.nest.now.loops c.args.outer.now next.0 next.1 c.loop-done._done start mid end (finish_of_turned c.run_next.result) (before.so_far k more)
    (turns-moved g.W.Watch.may _ x k _ c.args.nest.now.loops c.loop-done.outer (turns_later c.args.outer.now c.loop-done._done) 1 mid end (finish_of_turned c.run_next.result) before.kept.expects_same (sym loops) before.outer (c.run_next.ensures.ran k (omega (arith, more, before.kept.fewer)))) in
    let other = finish_of_turned-not c.run_next.result c.in_default-run_next.not-Went in
    let stays = c.run_next.ensures.others c.in_default-run_next.not-Went in
    record {
      ran = λ k more. ran-turns-out g.W.Watch.may x k c.args.nest.now.loops c.args.outer.now next.0 next.1 (c.loop-done._done + 1) c.args.turns start end (finish_of_turned c.run_next.result) (all k more) other (omega (arith, c.loop-done-test.true));
      outer = (
        c.loop-done._done,
        stays ∙ before.outer,
        λ k more. whole-turns-some g.W.Watch.may x k c.args.nest.now.loops c.args.outer.now next.0 next.1 c.loop-done._done c.args.turns start mid end (finish_of_turned c.run_next.result) c.loop-done-test.true (before.so_far k more) (all k more) other,
      );
      position = position-nest c.args.nest.now.loops c.in-Some.first.now c.in-Some.rest.now c.run_next.new.outer loops c.run_next.ensures.position;
      number = subst (λ (o : Outer). FitsSigned w64 (o.next +ℤ pos c.run_next.new.run.steps.left)) (sym stays) (number-kept c.loop-done.outer c.loop-done.run.steps.left c.run_next.new.run.steps.left here.0 here.1 c.run_next.ensures.kept.fewer before.number);
      kept = kept-trans _ _ _ _ _ before.kept c.run_next.ensures.kept;
    }

pub returns-clause-ran : goal.returns-clause-ran
returns-clause-ran g c = λ k more.
    let all : c.loop-done._done ≡ c.args.turns = search rules in
    subst (λ (n : ℕ). Ran g.W.Watch.may (turns_trace (g.P.Port.expects c.args.run.now.port.now) k c.args.nest.now.loops c.args.outer.now n) (outside g.P.Port.memory c.args.run.now) (outside g.P.Port.memory c.loop-done.run) Done) all (c.loop-done.invariant.so_far k more)

pub returns-clause-outer : goal.returns-clause-outer
returns-clause-outer g c =
    let all : c.loop-done._done ≡ c.args.turns = search rules in
    let start = outside g.P.Port.memory c.args.run.now in
    let next = position-next c.args.nest.now.loops c.args.outer.now c.requires.position in (
      c.loop-done._done,
      c.loop-done.invariant.outer,
      λ k more.
          subst (λ (n : ℕ). AreWhole (turns_trace (g.P.Port.expects c.args.run.now.port.now) k c.args.nest.now.loops c.args.outer.now) (outside g.P.Port.memory c.args.run.now).store c.args.run.now.steps.left n c.loop-done._done) all
          (whole-turns-all g.W.Watch.may (g.P.Port.expects c.args.run.now.port.now) k c.args.nest.now.loops c.args.outer.now next.0 next.1 c.loop-done._done start (outside g.P.Port.memory c.loop-done.run) (c.loop-done.invariant.so_far k more)),
    )
