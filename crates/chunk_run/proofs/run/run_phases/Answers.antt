use Rattle.std.proofs.Common.{◌≡◌, refl, sym, ap, ◌∙◌, subst, ℕ, ◌<◌, ◌≤◌, ◌-◌, length, Option, None, true≢false, rules, arith}
use Rattle.std.specs.Int.{w64, cast_signed}
use Rattle.std.specs.Prelude.{◌^◌}
use Rattle.std.proofs.lemmas.List.{length-map}
use Rattle.domain.specs.Instances.{opening_at}
use Rattle.shared_words.specs.Memories.{signed}
use Rattle.follow_chunk.specs.Predicted.{scalars_at}
use Rattle.follow_chunk.specs.Tasks.{TaskState, task_of}
use Rattle.tiles.specs.Plans.{ChunkPlan}
use Rattle.chunk_run.specs.Parts.{IsAttempt}
use Rattle.chunk_run.specs.Ready.{IsReady}
use Rattle.chunk_run.specs.Groups.{AttemptGains}
use Rattle.chunk_run.proofs.ReadyPhaseLaws.{few-phases}
use Rattle.chunk_run.proofs.AttemptingLaws.{PhaseIs, stands-none, stands-more, attempt-whole, ends-failed, ends-apart, ends-long}
use Rattle.chunk_run.proofs.run.run_phases.Goals.{else-number-eq0-via-then-number-eq0+else-not-begins, else-number-eq0-via-else-number-eq0}
use Rattle.chunk_run.proofs.run.run_phases.Goals as goal

pub loop-number-init : goal.loop-number-init
loop-number-init g c =
    let chunk = c.args.chunk.now in
    let t = chunk.launch.task.now in
    let k : TaskState = task_of t in
    let size : c.len-number-end.result ≡ length c.plan.inside.phases.items = search rules in
    let room = c.requires.spare in
    record {
      stands = stands-none g.row.D chunk.launch.workers k chunk.skeleton.now chunk.plan.now c.args.scalars.now c.args.left c.args.main.now.view (g.C.Crew.handed c.args.crew.now) c.requires.ready c.requires.unposted;
      end = size ∙ ap (λ (p : ChunkPlan). length p.phases) c.plan.view_is;
      table = refl;
      spare = omega (arith, room);
      empty = c.requires.empty;
      room = c.requires.room;
    }

pub run_number-requires : goal.run_number-requires
run_number-requires g c =
    let chunk = c.args.chunk.now in
    let t = chunk.launch.task.now in
    let k : TaskState = task_of t in
    let inv = c.loop-number.invariant in
    let inside : c.loop-number.number < length chunk.plan.now.phases = (let l = c.loop-number-test.true in let n = inv.end in omega (arith, l, n)) in
    let long : length c.loop-number.main.view.base ≡ length c.args.main.now.view.base =
    sym (length-map c.loop-number.main.view.base (cast_signed w64)) ∙ ((inv.stands).changes).long ∙ length-map c.args.main.now.view.base (cast_signed w64) in
    let ready : IsReady g.row.D (length c.loop-number.main.view.base) chunk.launch.workers k chunk.skeleton.now chunk.plan.now = subst (λ (n : ℕ). IsReady g.row.D n chunk.launch.workers k chunk.skeleton.now chunk.plan.now) (sym long) c.requires.ready in
    let few = few-phases g.row.D (length c.args.main.now.view.base) chunk.launch.workers k chunk.skeleton.now chunk.plan.now c.requires.ready in
    let table = inv.table ∙ c.requires.table in
    let unposted = (inv.stands).unposted in
    let epoch : c.loop-number.main.view.epoch < 2 ^ 63 - 1 = (let a = (inv.stands).epoch in let b = c.requires.epoch in omega (arith, a, b, few, inside)) in
    let spare : 0 < g.C.Crew.spare c.loop-number.crew = (let a = inv.spare in omega (arith, a, inside)) in
    let empty = inv.empty in
    let room = inv.room in
    search rules

pub loop-number-preserved : goal.loop-number-preserved
loop-number-preserved g c =
    let chunk = c.args.chunk.now in
    let t = chunk.launch.task.now in
    let k : TaskState = task_of t in
    let inv = c.loop-number.invariant in
    let inside : c.loop-number.number < length chunk.plan.now.phases = (let l = c.loop-number-test.true in let n = inv.end in omega (arith, l, n)) in
    let mid = g.C.Crew.handed c.loop-number.crew in
    let new = g.C.Crew.handed c.run_number.new.crew in
    let is : PhaseIs k chunk.skeleton.now chunk.launch.workers chunk.plan.now c.loop-number.number c.run_number.result c.loop-number.main.view c.run_number.new.main.view mid new = record {
      view = c.run_number.ensures.view;
      stored = c.run_number.ensures.stored;
      followed = c.run_number.ensures.followed;
      changes = c.run_number.ensures.changes;
      handed = c.run_number.ensures.handed;
    } in
    let few : c.in_ok-steps.steps ≤ c.loop-number.left = (let f = c.if-steps-left.false in omega (arith, f)) in
    let begins : c.args.scalars.now ≡ scalars_at t.pred.now (opening_at t.pred.now t.chunk.first) = elim c.else-number-eq0.branch [
      | else-number-eq0-via-then-number-eq0+else-not-begins w ↦ w.begins.ensures.0 w.if-not-begins.false
      | else-number-eq0-via-else-number-eq0 w ↦ (inv.stands).first (let z = w.if-number-eq0.false in omega (arith, z))
    ] in
    let a = inv.spare in
    let b = c.run_number.ensures.spare in
    record {
      stands = stands-more g.row.D chunk.launch.workers k chunk.skeleton.now chunk.plan.now c.args.scalars.now c.args.left c.args.main.now.view (g.C.Crew.handed c.args.crew.now) c.requires.ready c.loop-number.number c.loop-number.left inside c.loop-number.main.view c.run_number.new.main.view mid new inv.stands c.run_number.result is c.in_ok-steps.steps c.in_ok-steps.was few begins;
      end = inv.end;
      table = c.run_number.ensures.table ∙ inv.table;
      spare = omega (arith, a, b);
      empty = c.run_number.ensures.empty;
      room = (let r = inv.room in let q = c.run_number.ensures.room in omega (arith, r, q));
    }

pub returns-in_err-steps-clause-attempted : goal.returns-in_err-steps-clause-attempted
returns-in_err-steps-clause-attempted g c =
    let chunk = c.args.chunk.now in
    let t = chunk.launch.task.now in
    let k : TaskState = task_of t in
    let inv = c.loop-number.invariant in
    let inside : c.loop-number.number < length chunk.plan.now.phases = (let l = c.loop-number-test.true in let n = inv.end in omega (arith, l, n)) in
    let mid = g.C.Crew.handed c.loop-number.crew in
    let new = g.C.Crew.handed c.run_number.new.crew in
    let is : PhaseIs k chunk.skeleton.now chunk.launch.workers chunk.plan.now c.loop-number.number c.run_number.result c.loop-number.main.view c.run_number.new.main.view mid new = record {
      view = c.run_number.ensures.view;
      stored = c.run_number.ensures.stored;
      followed = c.run_number.ensures.followed;
      changes = c.run_number.ensures.changes;
      handed = c.run_number.ensures.handed;
    } in
    let none : c.from_residual.result ≡ None = search rules in
    subst (λ (r : Option ℕ). IsAttempt t.pred.now t.nest.now.loops t.outer t.chunk (signed c.args.main.now.view.base) c.args.scalars.now c.args.left r (signed c.run_number.new.main.view.base)) (sym none)
    (ends-failed g.row.D chunk.launch.workers k chunk.skeleton.now chunk.plan.now c.args.scalars.now c.args.left c.args.main.now.view (g.C.Crew.handed c.args.crew.now) c.requires.ready c.loop-number.number c.loop-number.left inside c.loop-number.main.view c.run_number.new.main.view mid new inv.stands c.run_number.result is c.in_err-steps.was).0

pub returns-in_err-steps-clause-changes : goal.returns-in_err-steps-clause-changes
returns-in_err-steps-clause-changes g c =
    let chunk = c.args.chunk.now in
    let t = chunk.launch.task.now in
    let k : TaskState = task_of t in
    let inv = c.loop-number.invariant in
    let inside : c.loop-number.number < length chunk.plan.now.phases = (let l = c.loop-number-test.true in let n = inv.end in omega (arith, l, n)) in
    let mid = g.C.Crew.handed c.loop-number.crew in
    let new = g.C.Crew.handed c.run_number.new.crew in
    let is : PhaseIs k chunk.skeleton.now chunk.launch.workers chunk.plan.now c.loop-number.number c.run_number.result c.loop-number.main.view c.run_number.new.main.view mid new = record {
      view = c.run_number.ensures.view;
      stored = c.run_number.ensures.stored;
      followed = c.run_number.ensures.followed;
      changes = c.run_number.ensures.changes;
      handed = c.run_number.ensures.handed;
    } in
    (ends-failed g.row.D chunk.launch.workers k chunk.skeleton.now chunk.plan.now c.args.scalars.now c.args.left c.args.main.now.view (g.C.Crew.handed c.args.crew.now) c.requires.ready c.loop-number.number c.loop-number.left inside c.loop-number.main.view c.run_number.new.main.view mid new inv.stands c.run_number.result is c.in_err-steps.was).1

pub returns-in_err-steps-clause-handed : goal.returns-in_err-steps-clause-handed
returns-in_err-steps-clause-handed g c =
    let chunk = c.args.chunk.now in
    let t = chunk.launch.task.now in
    let k : TaskState = task_of t in
    let inv = c.loop-number.invariant in
    let inside : c.loop-number.number < length chunk.plan.now.phases = (let l = c.loop-number-test.true in let n = inv.end in omega (arith, l, n)) in
    let mid = g.C.Crew.handed c.loop-number.crew in
    let new = g.C.Crew.handed c.run_number.new.crew in
    let is : PhaseIs k chunk.skeleton.now chunk.launch.workers chunk.plan.now c.loop-number.number c.run_number.result c.loop-number.main.view c.run_number.new.main.view mid new = record {
      view = c.run_number.ensures.view;
      stored = c.run_number.ensures.stored;
      followed = c.run_number.ensures.followed;
      changes = c.run_number.ensures.changes;
      handed = c.run_number.ensures.handed;
    } in
    let none : c.from_residual.result ≡ None = search rules in
    subst (λ (r : Option ℕ). AttemptGains chunk.skeleton.now chunk.launch.workers c.args.left r (g.C.Crew.handed c.args.crew.now) new) (sym none)
    (ends-failed g.row.D chunk.launch.workers k chunk.skeleton.now chunk.plan.now c.args.scalars.now c.args.left c.args.main.now.view (g.C.Crew.handed c.args.crew.now) c.requires.ready c.loop-number.number c.loop-number.left inside c.loop-number.main.view c.run_number.new.main.view mid new inv.stands c.run_number.result is c.in_err-steps.was).2

pub returns-in_err-steps-clause-seat : goal.returns-in_err-steps-clause-seat
returns-in_err-steps-clause-seat g c =
    let chunk = c.args.chunk.now in
    let t = chunk.launch.task.now in
    let k : TaskState = task_of t in
    let inv = c.loop-number.invariant in
    let inside : c.loop-number.number < length chunk.plan.now.phases = (let l = c.loop-number-test.true in let n = inv.end in omega (arith, l, n)) in
    let mid = g.C.Crew.handed c.loop-number.crew in
    let new = g.C.Crew.handed c.run_number.new.crew in
    let is : PhaseIs k chunk.skeleton.now chunk.launch.workers chunk.plan.now c.loop-number.number c.run_number.result c.loop-number.main.view c.run_number.new.main.view mid new = record {
      view = c.run_number.ensures.view;
      stored = c.run_number.ensures.stored;
      followed = c.run_number.ensures.followed;
      changes = c.run_number.ensures.changes;
      handed = c.run_number.ensures.handed;
    } in
    (ends-failed g.row.D chunk.launch.workers k chunk.skeleton.now chunk.plan.now c.args.scalars.now c.args.left c.args.main.now.view (g.C.Crew.handed c.args.crew.now) c.requires.ready c.loop-number.number c.loop-number.left inside c.loop-number.main.view c.run_number.new.main.view mid new inv.stands c.run_number.result is c.in_err-steps.was).3

pub returns-then-not-begins-clause-attempted : goal.returns-then-not-begins-clause-attempted
returns-then-not-begins-clause-attempted g c =
    let chunk = c.args.chunk.now in
    let t = chunk.launch.task.now in
    let k : TaskState = task_of t in
    let inv = c.loop-number.invariant in
    let inside : c.loop-number.number < length chunk.plan.now.phases = (let l = c.loop-number-test.true in let n = inv.end in omega (arith, l, n)) in
    let mid = g.C.Crew.handed c.loop-number.crew in
    let new = g.C.Crew.handed c.run_number.new.crew in
    let is : PhaseIs k chunk.skeleton.now chunk.launch.workers chunk.plan.now c.loop-number.number c.run_number.result c.loop-number.main.view c.run_number.new.main.view mid new = record {
      view = c.run_number.ensures.view;
      stored = c.run_number.ensures.stored;
      followed = c.run_number.ensures.followed;
      changes = c.run_number.ensures.changes;
      handed = c.run_number.ensures.handed;
    } in
    (ends-apart g.row.D chunk.launch.workers k chunk.skeleton.now chunk.plan.now c.args.scalars.now c.args.left c.args.main.now.view (g.C.Crew.handed c.args.crew.now) c.requires.ready c.loop-number.number c.loop-number.left inside c.loop-number.main.view c.run_number.new.main.view mid new inv.stands c.run_number.result is (λ e. true≢false (sym (c.begins.ensures.1 e) ∙ c.if-not-begins.true))).0

pub returns-then-not-begins-clause-changes : goal.returns-then-not-begins-clause-changes
returns-then-not-begins-clause-changes g c =
    let chunk = c.args.chunk.now in
    let t = chunk.launch.task.now in
    let k : TaskState = task_of t in
    let inv = c.loop-number.invariant in
    let inside : c.loop-number.number < length chunk.plan.now.phases = (let l = c.loop-number-test.true in let n = inv.end in omega (arith, l, n)) in
    let mid = g.C.Crew.handed c.loop-number.crew in
    let new = g.C.Crew.handed c.run_number.new.crew in
    let is : PhaseIs k chunk.skeleton.now chunk.launch.workers chunk.plan.now c.loop-number.number c.run_number.result c.loop-number.main.view c.run_number.new.main.view mid new = record {
      view = c.run_number.ensures.view;
      stored = c.run_number.ensures.stored;
      followed = c.run_number.ensures.followed;
      changes = c.run_number.ensures.changes;
      handed = c.run_number.ensures.handed;
    } in
    (ends-apart g.row.D chunk.launch.workers k chunk.skeleton.now chunk.plan.now c.args.scalars.now c.args.left c.args.main.now.view (g.C.Crew.handed c.args.crew.now) c.requires.ready c.loop-number.number c.loop-number.left inside c.loop-number.main.view c.run_number.new.main.view mid new inv.stands c.run_number.result is (λ e. true≢false (sym (c.begins.ensures.1 e) ∙ c.if-not-begins.true))).1

pub returns-then-not-begins-clause-handed : goal.returns-then-not-begins-clause-handed
returns-then-not-begins-clause-handed g c =
    let chunk = c.args.chunk.now in
    let t = chunk.launch.task.now in
    let k : TaskState = task_of t in
    let inv = c.loop-number.invariant in
    let inside : c.loop-number.number < length chunk.plan.now.phases = (let l = c.loop-number-test.true in let n = inv.end in omega (arith, l, n)) in
    let mid = g.C.Crew.handed c.loop-number.crew in
    let new = g.C.Crew.handed c.run_number.new.crew in
    let is : PhaseIs k chunk.skeleton.now chunk.launch.workers chunk.plan.now c.loop-number.number c.run_number.result c.loop-number.main.view c.run_number.new.main.view mid new = record {
      view = c.run_number.ensures.view;
      stored = c.run_number.ensures.stored;
      followed = c.run_number.ensures.followed;
      changes = c.run_number.ensures.changes;
      handed = c.run_number.ensures.handed;
    } in
    (ends-apart g.row.D chunk.launch.workers k chunk.skeleton.now chunk.plan.now c.args.scalars.now c.args.left c.args.main.now.view (g.C.Crew.handed c.args.crew.now) c.requires.ready c.loop-number.number c.loop-number.left inside c.loop-number.main.view c.run_number.new.main.view mid new inv.stands c.run_number.result is (λ e. true≢false (sym (c.begins.ensures.1 e) ∙ c.if-not-begins.true))).2

pub returns-then-not-begins-clause-seat : goal.returns-then-not-begins-clause-seat
returns-then-not-begins-clause-seat g c =
    let chunk = c.args.chunk.now in
    let t = chunk.launch.task.now in
    let k : TaskState = task_of t in
    let inv = c.loop-number.invariant in
    let inside : c.loop-number.number < length chunk.plan.now.phases = (let l = c.loop-number-test.true in let n = inv.end in omega (arith, l, n)) in
    let mid = g.C.Crew.handed c.loop-number.crew in
    let new = g.C.Crew.handed c.run_number.new.crew in
    let is : PhaseIs k chunk.skeleton.now chunk.launch.workers chunk.plan.now c.loop-number.number c.run_number.result c.loop-number.main.view c.run_number.new.main.view mid new = record {
      view = c.run_number.ensures.view;
      stored = c.run_number.ensures.stored;
      followed = c.run_number.ensures.followed;
      changes = c.run_number.ensures.changes;
      handed = c.run_number.ensures.handed;
    } in
    (ends-apart g.row.D chunk.launch.workers k chunk.skeleton.now chunk.plan.now c.args.scalars.now c.args.left c.args.main.now.view (g.C.Crew.handed c.args.crew.now) c.requires.ready c.loop-number.number c.loop-number.left inside c.loop-number.main.view c.run_number.new.main.view mid new inv.stands c.run_number.result is (λ e. true≢false (sym (c.begins.ensures.1 e) ∙ c.if-not-begins.true))).3

pub returns-then-steps-left-clause-attempted : goal.returns-then-steps-left-clause-attempted
returns-then-steps-left-clause-attempted g c =
    let chunk = c.args.chunk.now in
    let t = chunk.launch.task.now in
    let k : TaskState = task_of t in
    let inv = c.loop-number.invariant in
    let inside : c.loop-number.number < length chunk.plan.now.phases = (let l = c.loop-number-test.true in let n = inv.end in omega (arith, l, n)) in
    let mid = g.C.Crew.handed c.loop-number.crew in
    let new = g.C.Crew.handed c.run_number.new.crew in
    let is : PhaseIs k chunk.skeleton.now chunk.launch.workers chunk.plan.now c.loop-number.number c.run_number.result c.loop-number.main.view c.run_number.new.main.view mid new = record {
      view = c.run_number.ensures.view;
      stored = c.run_number.ensures.stored;
      followed = c.run_number.ensures.followed;
      changes = c.run_number.ensures.changes;
      handed = c.run_number.ensures.handed;
    } in
    (ends-long g.row.D chunk.launch.workers k chunk.skeleton.now chunk.plan.now c.args.scalars.now c.args.left c.args.main.now.view (g.C.Crew.handed c.args.crew.now) c.requires.ready c.loop-number.number c.loop-number.left inside c.loop-number.main.view c.run_number.new.main.view mid new inv.stands c.run_number.result is c.in_ok-steps.steps c.in_ok-steps.was (let l = c.if-steps-left.true in omega (arith, l))).0

pub returns-then-steps-left-clause-changes : goal.returns-then-steps-left-clause-changes
returns-then-steps-left-clause-changes g c =
    let chunk = c.args.chunk.now in
    let t = chunk.launch.task.now in
    let k : TaskState = task_of t in
    let inv = c.loop-number.invariant in
    let inside : c.loop-number.number < length chunk.plan.now.phases = (let l = c.loop-number-test.true in let n = inv.end in omega (arith, l, n)) in
    let mid = g.C.Crew.handed c.loop-number.crew in
    let new = g.C.Crew.handed c.run_number.new.crew in
    let is : PhaseIs k chunk.skeleton.now chunk.launch.workers chunk.plan.now c.loop-number.number c.run_number.result c.loop-number.main.view c.run_number.new.main.view mid new = record {
      view = c.run_number.ensures.view;
      stored = c.run_number.ensures.stored;
      followed = c.run_number.ensures.followed;
      changes = c.run_number.ensures.changes;
      handed = c.run_number.ensures.handed;
    } in
    (ends-long g.row.D chunk.launch.workers k chunk.skeleton.now chunk.plan.now c.args.scalars.now c.args.left c.args.main.now.view (g.C.Crew.handed c.args.crew.now) c.requires.ready c.loop-number.number c.loop-number.left inside c.loop-number.main.view c.run_number.new.main.view mid new inv.stands c.run_number.result is c.in_ok-steps.steps c.in_ok-steps.was (let l = c.if-steps-left.true in omega (arith, l))).1

pub returns-then-steps-left-clause-handed : goal.returns-then-steps-left-clause-handed
returns-then-steps-left-clause-handed g c =
    let chunk = c.args.chunk.now in
    let t = chunk.launch.task.now in
    let k : TaskState = task_of t in
    let inv = c.loop-number.invariant in
    let inside : c.loop-number.number < length chunk.plan.now.phases = (let l = c.loop-number-test.true in let n = inv.end in omega (arith, l, n)) in
    let mid = g.C.Crew.handed c.loop-number.crew in
    let new = g.C.Crew.handed c.run_number.new.crew in
    let is : PhaseIs k chunk.skeleton.now chunk.launch.workers chunk.plan.now c.loop-number.number c.run_number.result c.loop-number.main.view c.run_number.new.main.view mid new = record {
      view = c.run_number.ensures.view;
      stored = c.run_number.ensures.stored;
      followed = c.run_number.ensures.followed;
      changes = c.run_number.ensures.changes;
      handed = c.run_number.ensures.handed;
    } in
    (ends-long g.row.D chunk.launch.workers k chunk.skeleton.now chunk.plan.now c.args.scalars.now c.args.left c.args.main.now.view (g.C.Crew.handed c.args.crew.now) c.requires.ready c.loop-number.number c.loop-number.left inside c.loop-number.main.view c.run_number.new.main.view mid new inv.stands c.run_number.result is c.in_ok-steps.steps c.in_ok-steps.was (let l = c.if-steps-left.true in omega (arith, l))).2

pub returns-then-steps-left-clause-seat : goal.returns-then-steps-left-clause-seat
returns-then-steps-left-clause-seat g c =
    let chunk = c.args.chunk.now in
    let t = chunk.launch.task.now in
    let k : TaskState = task_of t in
    let inv = c.loop-number.invariant in
    let inside : c.loop-number.number < length chunk.plan.now.phases = (let l = c.loop-number-test.true in let n = inv.end in omega (arith, l, n)) in
    let mid = g.C.Crew.handed c.loop-number.crew in
    let new = g.C.Crew.handed c.run_number.new.crew in
    let is : PhaseIs k chunk.skeleton.now chunk.launch.workers chunk.plan.now c.loop-number.number c.run_number.result c.loop-number.main.view c.run_number.new.main.view mid new = record {
      view = c.run_number.ensures.view;
      stored = c.run_number.ensures.stored;
      followed = c.run_number.ensures.followed;
      changes = c.run_number.ensures.changes;
      handed = c.run_number.ensures.handed;
    } in
    (ends-long g.row.D chunk.launch.workers k chunk.skeleton.now chunk.plan.now c.args.scalars.now c.args.left c.args.main.now.view (g.C.Crew.handed c.args.crew.now) c.requires.ready c.loop-number.number c.loop-number.left inside c.loop-number.main.view c.run_number.new.main.view mid new inv.stands c.run_number.result is c.in_ok-steps.steps c.in_ok-steps.was (let l = c.if-steps-left.true in omega (arith, l))).3

pub returns-clause-attempted : goal.returns-clause-attempted
returns-clause-attempted g c =
    let chunk = c.args.chunk.now in
    let t = chunk.launch.task.now in
    let k : TaskState = task_of t in
    let inv = c.loop-number.invariant in
    let all : length chunk.plan.now.phases ≤ c.loop-number.number = (let l = c.loop-number-test.false in let n = inv.end in omega (arith, l, n)) in
    (attempt-whole g.row.D chunk.launch.workers k chunk.skeleton.now chunk.plan.now c.args.scalars.now c.args.left c.args.main.now.view (g.C.Crew.handed c.args.crew.now) c.requires.ready c.loop-number.number c.loop-number.left c.loop-number.main.view (g.C.Crew.handed c.loop-number.crew) all inv.stands).0

pub returns-clause-changes : goal.returns-clause-changes
returns-clause-changes g c =
    let chunk = c.args.chunk.now in
    let t = chunk.launch.task.now in
    let k : TaskState = task_of t in
    let inv = c.loop-number.invariant in
    let all : length chunk.plan.now.phases ≤ c.loop-number.number = (let l = c.loop-number-test.false in let n = inv.end in omega (arith, l, n)) in
    (inv.stands).changes

pub returns-clause-handed : goal.returns-clause-handed
returns-clause-handed g c =
    let chunk = c.args.chunk.now in
    let t = chunk.launch.task.now in
    let k : TaskState = task_of t in
    let inv = c.loop-number.invariant in
    let all : length chunk.plan.now.phases ≤ c.loop-number.number = (let l = c.loop-number-test.false in let n = inv.end in omega (arith, l, n)) in
    (attempt-whole g.row.D chunk.launch.workers k chunk.skeleton.now chunk.plan.now c.args.scalars.now c.args.left c.args.main.now.view (g.C.Crew.handed c.args.crew.now) c.requires.ready c.loop-number.number c.loop-number.left c.loop-number.main.view (g.C.Crew.handed c.loop-number.crew) all inv.stands).1

pub returns-clause-seat : goal.returns-clause-seat
returns-clause-seat g c =
    let chunk = c.args.chunk.now in
    let t = chunk.launch.task.now in
    let k : TaskState = task_of t in
    let inv = c.loop-number.invariant in
    let all : length chunk.plan.now.phases ≤ c.loop-number.number = (let l = c.loop-number-test.false in let n = inv.end in omega (arith, l, n)) in
    (attempt-whole g.row.D chunk.launch.workers k chunk.skeleton.now chunk.plan.now c.args.scalars.now c.args.left c.args.main.now.view (g.C.Crew.handed c.args.crew.now) c.requires.ready c.loop-number.number c.loop-number.left c.loop-number.main.view (g.C.Crew.handed c.loop-number.crew) all inv.stands).2
