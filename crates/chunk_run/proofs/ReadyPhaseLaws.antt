-- Readying: each phase of a chunk that is ready may be posted.
use Rattle.std.proofs.Common.{◌≡◌, refl, sym, ap, ◌∙◌, subst, ℕ, suc, ◌<◌, ◌≤◌, ◌+◌, pos, List, [], ◌∷◌, ◌++◌, length, length-append, take, drop, arith}
use Rattle.std.specs.Prelude.{◌^◌}
use Rattle.std.specs.List.{All, AllByRecursion}
use Rattle.std.proofs.lemmas.Grind.{flat_map-append}
use Rattle.atomic_table.specs.Seated.{TableId}
use Rattle.core_steps.specs.Plans.{no_plan}
use Rattle.orders.specs.Orders.{Ordered}
use Rattle.plain_lemmas.specs.Lists.{Has}
use Rattle.orders.specs.Tiles.{flat}
use Rattle.plain_lemmas.proofs.MembershipLaws.{has-from-contains}
use Rattle.domain.specs.declared.chunk.Chunk.{Chunk}
use Rattle.domain.specs.Tables.{Table}
use Rattle.domain.specs.Instances.{Instance, Predicted, IsOriginal, padded}
use Rattle.skeletons.specs.Cells.{Cell, CellComes, Extent, AreListsOf, cell_of}
use Rattle.follow_chunk.proofs.ListingLaws.{split-at}
use Rattle.follow_chunk.specs.Tasks.{TaskState}
use Rattle.tiles.specs.Plans.{ChunkPlan, Phase, IsOnePhase, IsPhaseOf, cells_of}
use Rattle.tiles.proofs.PlanLaws.{launched-few}
use Rattle.phase_run.specs.Postings.{IsPostable}
use Rattle.chunk_run.specs.Parts.{phase_at}
use Rattle.chunk_run.specs.Ready.{IsReady}
use Rattle.chunk_run.proofs.CellListLaws.{flat-predicted}
use Rattle.chunk_run.proofs.ClosingLaws.{not-empty}
use Rattle.chunk_run.proofs.CountLaws.{fewer}
use Rattle.chunk_run.proofs.PhasePlanLaws.{tiles-long, cells-long, stays-within}
use Rattle.chunk_run.proofs.PhasingLaws.{cells-ordered}
use Rattle.chunk_run.proofs.SchedulingLaws.{lists-once}

abbrev no-phase : Phase
no-phase = record { cells = []; plan = no_plan }

module _ (D words workers : ℕ) (k : TaskState) (e : Extent) (plan : ChunkPlan) (ready : IsReady D words workers k e plan) where
  -- a chunk has an instance, and so a phase
  pub some-phase : 0 < length plan.phases
  some-phase = by k.chunk refl (ready.task.launched).1.list (ready.task.launched).1.original
    where
      here : (x : Instance) → Predicted e.table e.chunk x → 0 < length plan.phases
      here x p = in-phases plan.phases (cell_of e.schedule (padded e.table x)) ((ready.planned.cells.has (cell_of e.schedule (padded e.table x))).1 (x, record { predicted = p; inside = refl }))
        where
          in-phases : (phases : List Phase) (cell : Cell) → Has (cells_of phases) cell → 0 < length phases
          in-phases [] cell h = absurd h
          in-phases (p ∷ phases) cell h = omega arith

      by : (chunk : Chunk) → chunk ≡ k.chunk → (xs : List Instance) → IsOriginal k.pred k.chunk xs → 0 < length plan.phases
      by chunk is [] original = absurd (not-empty D k words ready.task original)
      by chunk is (x ∷ xs) original = here x (subst (λ (t : Table). Predicted t e.chunk x) (sym ready.same_table) (subst (λ (c : Chunk). Predicted k.pred c x) (sym ready.same_chunk) ((original.has x).0 (0, omega arith, refl))))

  pub all-one : AllByRecursion IsOnePhase plan.phases
  all-one = by plan.phases ready.planned.phases
    where
      by : (phases : List Phase) → All (IsPhaseOf e words) phases → AllByRecursion IsOnePhase phases
      by [] all = tt
      by (p ∷ phases) all = ((all 0 p (omega arith)).one, by phases (λ i d l. all (suc i) d (omega arith)))

  -- it has no more phases than cells, since each phase has one
  pub few-phases : length plan.phases ≤ 65536
  few-phases = let n = no-more plan.phases ready.planned.phases in let m = ready.planned.tiles in let f = ready.planned.few in omega (arith, n, m, f)
    where
      no-more : (phases : List Phase) → All (IsPhaseOf e words) phases → length phases ≤ length (cells_of phases)
      no-more [] all = omega arith
      no-more (p ∷ phases) all =
          let some = ((all 0 p (omega arith)).one).some in
          let rest = no-more phases (λ i d l. all (suc i) d (omega arith)) in
          let size = length-append p.cells (cells_of phases) in
          omega (arith, some, rest, size)

  module _ (number : ℕ) (inside : number < length plan.phases) where
    abbrev phase : Phase
    phase = phase_at plan.phases number

    pub is-phase : IsPhaseOf e words phase
    is-phase = ready.planned.phases number no-phase inside

    -- the phases, with this one among them
    split : plan.phases ≡ take number plan.phases ++ phase ∷ drop (suc number) plan.phases
    split = split-at plan.phases number no-phase inside

    few-here : length phase.cells ≤ 65536
    few-here =
        let all = ready.planned.tiles in
        let few = ready.planned.few in
        let cells : length (cells_of plan.phases) ≡ length (cells_of (take number plan.phases)) + length (phase.cells ++ cells_of (drop (suc number) plan.phases)) =
        ap (λ (ps : List Phase). length (cells_of ps)) split ∙ ap length (flat_map-append (λ (p : Phase). p.cells) (take number plan.phases) (phase ∷ drop (suc number) plan.phases))
        ∙ length-append (cells_of (take number plan.phases)) (phase.cells ++ cells_of (drop (suc number) plan.phases)) in
        let here = length-append phase.cells (cells_of (drop (suc number) plan.phases)) in
        omega (arith, all, few, cells, here)

    pub few-cells : length phase.cells < 2 ^ 32
    few-cells = let f = few-here in omega (arith, f)

    module _ (lists : List (List Instance)) (are : AreListsOf e phase.cells lists) where
      predicted : (x : Instance) → Has (flat lists) x → Predicted k.pred k.chunk x
      predicted x h = subst (λ (t : Table). Predicted t k.chunk x) ready.same_table (subst (λ (c : Chunk). Predicted e.table c x) ready.same_chunk (flat-predicted e phase.cells lists x are h))

      few-lists : length (flat lists) ≤ 65536
      few-lists =
          let launched = (ready.task.launched).1 in
          let once = lists-once e phase.cells lists (cells-ordered (take number plan.phases) (drop (suc number) plan.phases) phase (subst (λ (ps : List Phase). Ordered CellComes (cells_of ps)) split ready.planned.cells.ordered)) are in
          let most = fewer (flat lists) launched.list once (λ x h. has-from-contains launched.list x ((launched.original.has x).1 (predicted x h))) in
          let few = launched-few k.pred (pos words) k.chunk (ready.task.launched).0 launched in
          let count = launched.count in
          omega (arith, most, few, count)

      pub postable : (table : TableId) → IsPostable D words k (record { table = table; lists = lists; plan = phase.plan; number = number; workers = workers })
      postable table = record {
        deep = ready.deep;
        task = ready.task;
        separate = is-phase.separate;
        few_tiles = (let l = tiles-long e words phase.cells lists phase.plan.tiles are is-phase.tiles in let m = cells-long e words phase.cells lists are in let f = few-here in omega (arith, l, m, f));
        inside = is-phase.inside;
        lists = tiles-long e words phase.cells lists phase.plan.tiles are is-phase.tiles;
        within = stays-within e words k phase.plan phase.cells lists ready.same_table are is-phase.tiles;
        predicted = predicted;
        short = few-lists;
        some = ready.some;
        few = ready.few;
      }
