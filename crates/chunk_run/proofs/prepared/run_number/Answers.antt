use Rattle.std.proofs.Common.{◌≡◌, sym, ap, ◌∙◌, subst, ℕ, ◌<◌, ◌≤◌, length, vec_capacity, List, rules, arith}
use Rattle.std.specs.Prelude.{◌^◌, slice_index_or}
use Rattle.core_steps.specs.declared.plan.Plan.{Plan}
use Rattle.skeletons.specs.Cells.{Cell, AreListsOf}
use Rattle.follow_chunk.specs.Tasks.{TaskState, task_of}
use Rattle.tiles.specs.Plans.{ChunkPlan, Phase}
use Rattle.phase_run.specs.Postings.{PostingState, IsPostable}
use Rattle.chunk_run.specs.Parts.{phase_at}
use Rattle.chunk_run.proofs.ReadyPhaseLaws.{few-cells, few-phases}
use Rattle.chunk_run.proofs.PostedPhaseLaws.{at-number, may-post, followed-phase, changed-phase, gained-phase}
use Rattle.chunk_run.proofs.prepared.run_number.Goals as goal

pub new-walks-requires : goal.new-walks-requires
new-walks-requires g c =
    let chunk = c.args.chunk.now in
    let t = chunk.launch.task.now in
    let k : TaskState = task_of t in
    let deep = c.requires.ready.deep in
    let items : c.plan.inside.phases.items ≡ chunk.plan.now.phases = ap (λ (p : ChunkPlan). p.phases) c.plan.view_is in
    let here : c.index-phase.result.now ≡ phase_at chunk.plan.now.phases c.args.number =
    at-number chunk.plan.now.phases c.args.number c.index-phase.result.now c.requires.number (subst (λ (ps : List Phase). c.index-phase.result.now ≡ slice_index_or ps c.args.number c.index-phase.result.now) items c.index-phase.ensures) in
    let cells : c.as_slice.result.now ≡ (phase_at chunk.plan.now.phases c.args.number).cells = c.as_slice.ensures.value ∙ ap (λ (p : Phase). p.cells) c.phase.view_is ∙ ap (λ (p : Phase). p.cells) here in
    let few : length c.as_slice.result.now < 2 ^ 32 =
    subst (λ (cs : List Cell). length cs < 2 ^ 32) (sym cells) (few-cells g.row.D (length c.args.main.now.view.base) chunk.launch.workers k chunk.skeleton.now chunk.plan.now c.requires.ready c.args.number c.requires.number) in
    search rules

pub overflow_cast-number : goal.overflow_cast-number
overflow_cast-number g c =
    let chunk = c.args.chunk.now in
    let t = chunk.launch.task.now in
    let k : TaskState = task_of t in
    let few = few-phases g.row.D (length c.args.main.now.view.base) chunk.launch.workers k chunk.skeleton.now chunk.plan.now c.requires.ready in
    let l = c.requires.number in
    let small : c.args.number < 2 ^ 32 = omega (arith, few, l) in
    search rules

pub run_phase-requires-after_bounds : goal.run_phase-requires-after_bounds
run_phase-requires-after_bounds g c κs within =
    let chunk = c.args.chunk.now in
    let t = chunk.launch.task.now in
    let k : TaskState = task_of t in
    let items : c.plan.inside.phases.items ≡ chunk.plan.now.phases = ap (λ (p : ChunkPlan). p.phases) c.plan.view_is in
    let here : c.index-phase.result.now ≡ phase_at chunk.plan.now.phases c.args.number =
    at-number chunk.plan.now.phases c.args.number c.index-phase.result.now c.requires.number (subst (λ (ps : List Phase). c.index-phase.result.now ≡ slice_index_or ps c.args.number c.index-phase.result.now) items c.index-phase.ensures) in
    let cells : c.as_slice.result.now ≡ (phase_at chunk.plan.now.phases c.args.number).cells = c.as_slice.ensures.value ∙ ap (λ (p : Phase). p.cells) c.phase.view_is ∙ ap (λ (p : Phase). p.cells) here in
    let are : AreListsOf chunk.skeleton.now (phase_at chunk.plan.now.phases c.args.number).cells c.new-walks.result = subst (λ (cs : List Cell). AreListsOf chunk.skeleton.now cs c.new-walks.result) cells c.new-walks.ensures.lists in
    let is : c.new-posting.result ≡ record { table = chunk.launch.words.now; lists = c.new-walks.result; plan = (phase_at chunk.plan.now.phases c.args.number).plan; number = c.args.number; workers = chunk.launch.workers } =
    c.new-posting.ensures ∙ ap (λ (q : Plan). record { table = chunk.launch.words.now; lists = c.new-walks.result; plan = q; number = c.args.number; workers = chunk.launch.workers }) (ap (λ (p : Phase). p.plan) c.phase.view_is ∙ ap (λ (p : Phase). p.plan) here) in
    let deep = c.requires.ready.deep in
    let table : c.args.main.now.table ≡ c.new-posting.result.table = c.requires.table ∙ sym (ap (λ (p : PostingState). p.table) is) in
    let room : c.new-posting.result.workers ≤ vec_capacity c.args.workers.now = subst (λ (n : ℕ). n ≤ vec_capacity c.args.workers.now) (sym (ap (λ (p : PostingState). p.workers) is)) c.requires.room in
    let postable : IsPostable g.row.D (length c.args.main.now.view.base) k c.new-posting.result = may-post g.row.D (length c.args.main.now.view.base) chunk.launch.workers k chunk.skeleton.now chunk.plan.now c.requires.ready c.args.number c.requires.number c.new-walks.result are chunk.launch.words.now c.new-posting.result is in
    search rules

pub returns-clause-followed : goal.returns-clause-followed
returns-clause-followed g c =
    let chunk = c.args.chunk.now in
    let t = chunk.launch.task.now in
    let k : TaskState = task_of t in
    let items : c.plan.inside.phases.items ≡ chunk.plan.now.phases = ap (λ (p : ChunkPlan). p.phases) c.plan.view_is in
    let here : c.index-phase.result.now ≡ phase_at chunk.plan.now.phases c.args.number =
    at-number chunk.plan.now.phases c.args.number c.index-phase.result.now c.requires.number (subst (λ (ps : List Phase). c.index-phase.result.now ≡ slice_index_or ps c.args.number c.index-phase.result.now) items c.index-phase.ensures) in
    let cells : c.as_slice.result.now ≡ (phase_at chunk.plan.now.phases c.args.number).cells = c.as_slice.ensures.value ∙ ap (λ (p : Phase). p.cells) c.phase.view_is ∙ ap (λ (p : Phase). p.cells) here in
    let are : AreListsOf chunk.skeleton.now (phase_at chunk.plan.now.phases c.args.number).cells c.new-walks.result = subst (λ (cs : List Cell). AreListsOf chunk.skeleton.now cs c.new-walks.result) cells c.new-walks.ensures.lists in
    let is : c.new-posting.result ≡ record { table = chunk.launch.words.now; lists = c.new-walks.result; plan = (phase_at chunk.plan.now.phases c.args.number).plan; number = c.args.number; workers = chunk.launch.workers } =
    c.new-posting.ensures ∙ ap (λ (q : Plan). record { table = chunk.launch.words.now; lists = c.new-walks.result; plan = q; number = c.args.number; workers = chunk.launch.workers }) (ap (λ (p : Phase). p.plan) c.phase.view_is ∙ ap (λ (p : Phase). p.plan) here) in
    followed-phase g.row.D (length c.args.main.now.view.base) chunk.launch.workers k chunk.skeleton.now chunk.plan.now c.requires.ready c.args.number c.requires.number c.new-walks.result are chunk.launch.words.now c.new-posting.result is c.args.main.now.view.base c.run_phase.new.main.view.base c.run_phase.result c.run_phase.ensures.ran

pub returns-clause-changes : goal.returns-clause-changes
returns-clause-changes g c =
    let chunk = c.args.chunk.now in
    let t = chunk.launch.task.now in
    let k : TaskState = task_of t in
    let items : c.plan.inside.phases.items ≡ chunk.plan.now.phases = ap (λ (p : ChunkPlan). p.phases) c.plan.view_is in
    let here : c.index-phase.result.now ≡ phase_at chunk.plan.now.phases c.args.number =
    at-number chunk.plan.now.phases c.args.number c.index-phase.result.now c.requires.number (subst (λ (ps : List Phase). c.index-phase.result.now ≡ slice_index_or ps c.args.number c.index-phase.result.now) items c.index-phase.ensures) in
    let cells : c.as_slice.result.now ≡ (phase_at chunk.plan.now.phases c.args.number).cells = c.as_slice.ensures.value ∙ ap (λ (p : Phase). p.cells) c.phase.view_is ∙ ap (λ (p : Phase). p.cells) here in
    let are : AreListsOf chunk.skeleton.now (phase_at chunk.plan.now.phases c.args.number).cells c.new-walks.result = subst (λ (cs : List Cell). AreListsOf chunk.skeleton.now cs c.new-walks.result) cells c.new-walks.ensures.lists in
    let is : c.new-posting.result ≡ record { table = chunk.launch.words.now; lists = c.new-walks.result; plan = (phase_at chunk.plan.now.phases c.args.number).plan; number = c.args.number; workers = chunk.launch.workers } =
    c.new-posting.ensures ∙ ap (λ (q : Plan). record { table = chunk.launch.words.now; lists = c.new-walks.result; plan = q; number = c.args.number; workers = chunk.launch.workers }) (ap (λ (p : Phase). p.plan) c.phase.view_is ∙ ap (λ (p : Phase). p.plan) here) in
    changed-phase g.row.D (length c.args.main.now.view.base) chunk.launch.workers k chunk.skeleton.now chunk.plan.now c.requires.ready c.args.number c.requires.number c.new-walks.result are chunk.launch.words.now c.new-posting.result is c.args.main.now.view.base c.run_phase.new.main.view.base c.run_phase.ensures.others

pub returns-clause-handed : goal.returns-clause-handed
returns-clause-handed g c =
    let chunk = c.args.chunk.now in
    let t = chunk.launch.task.now in
    let k : TaskState = task_of t in
    let items : c.plan.inside.phases.items ≡ chunk.plan.now.phases = ap (λ (p : ChunkPlan). p.phases) c.plan.view_is in
    let here : c.index-phase.result.now ≡ phase_at chunk.plan.now.phases c.args.number =
    at-number chunk.plan.now.phases c.args.number c.index-phase.result.now c.requires.number (subst (λ (ps : List Phase). c.index-phase.result.now ≡ slice_index_or ps c.args.number c.index-phase.result.now) items c.index-phase.ensures) in
    let cells : c.as_slice.result.now ≡ (phase_at chunk.plan.now.phases c.args.number).cells = c.as_slice.ensures.value ∙ ap (λ (p : Phase). p.cells) c.phase.view_is ∙ ap (λ (p : Phase). p.cells) here in
    let are : AreListsOf chunk.skeleton.now (phase_at chunk.plan.now.phases c.args.number).cells c.new-walks.result = subst (λ (cs : List Cell). AreListsOf chunk.skeleton.now cs c.new-walks.result) cells c.new-walks.ensures.lists in
    let is : c.new-posting.result ≡ record { table = chunk.launch.words.now; lists = c.new-walks.result; plan = (phase_at chunk.plan.now.phases c.args.number).plan; number = c.args.number; workers = chunk.launch.workers } =
    c.new-posting.ensures ∙ ap (λ (q : Plan). record { table = chunk.launch.words.now; lists = c.new-walks.result; plan = q; number = c.args.number; workers = chunk.launch.workers }) (ap (λ (p : Phase). p.plan) c.phase.view_is ∙ ap (λ (p : Phase). p.plan) here) in
    gained-phase g.row.D (length c.args.main.now.view.base) chunk.launch.workers k chunk.skeleton.now chunk.plan.now c.requires.ready c.args.number c.requires.number c.new-walks.result are chunk.launch.words.now c.new-posting.result is c.run_phase.result (g.C.Crew.handed c.args.crew.now) (g.C.Crew.handed c.run_phase.new.crew) c.run_phase.ensures.handed
