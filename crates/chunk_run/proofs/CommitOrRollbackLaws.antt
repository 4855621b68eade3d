-- Ending: a chunk that succeeds is committed, and one that fails is rolled back.
use Rattle.std.proofs.Common.{◌≡◌, sym, subst, ℕ, zero, suc, ◌<◌, ◌+◌, ◌-◌, ℤ, pos, List, [], ◌∷◌, length, length-append, get_or, arith}
use Rattle.std.specs.Prelude.{◌^◌}
use Rattle.std.specs.List.{All}
use Rattle.nest_lang.specs.declared.tree.Loop.{Loop}
use Rattle.nest_lang.specs.declared.state.Outer.{Outer}
use Rattle.plain_lemmas.specs.Lists.{Has}
use Rattle.plain_lemmas.proofs.MembershipLaws.{all-from, contains-from-has}
use Rattle.domain.specs.declared.chunk.Chunk.{Chunk}
use Rattle.domain.specs.Tables.{Table}
use Rattle.domain.specs.Launches.{IsLaunched}
use Rattle.transform.specs.Schedules.{Schedule}
use Rattle.skeletons.specs.Cells.{Extent}
use Rattle.follow_chunk.specs.Predicted.{scalars_at}
use Rattle.follow_chunk.specs.Tasks.{TaskState, IsTask}
use Rattle.compare.specs.ChainLaw.{behind}
use Rattle.tiles.specs.Plans.{Phase, ChunkPlan, IsOnePhase, IsPhaseOf, IsPlanOf, cells_of}
use Rattle.chunk_run.specs.Parts.{Succeeds, Fails}
use Rattle.chunk_run.specs.ChunkEnds.{Between, between, HasNumbers, IsCommitted, IsRolledBack}
use Rattle.chunk_run.proofs.CommittingLaws.{deviates, follows, leads-to}
use Rattle.chunk_run.proofs.PhasingLaws.{keys-exist}

-- what holds of all elements holds of each
pub from-all : {X : Type 0} (P : X → Type 0) (xs : List X) (x : X) → All P xs → Has xs x → P x
from-all P xs x all h = let (k, l, is) = contains-from-has xs x h in subst P is (all k x l)

module _ (D : ℕ) (job : TaskState) (words : ℕ) (s : Schedule) (task : IsTask D job (pos words)) (a : Between) (size : length a.scalars ≡ job.scalars) (long : length a.words ≡ words) where
  abbrev e : Extent
  e = record { table = job.pred; schedule = s; chunk = job.chunk }

  pub rolled-back : (b : Between) → Fails job.pred job.loops job.outer job.chunk a.words a.scalars a.steps.left → b ≡ a → IsRolledBack e job.loops job.outer a b
  rolled-back b fails same = record { deviates = deviates D job words task a size fails; same = same }

  module _ (plan : ChunkPlan) (planned : IsPlanOf e words plan) where
    numbers : HasNumbers e (pos (length a.words)) plan.instances (length plan.phases) plan.tiles
    numbers =
        let (keys, are, many) = keys-exist e plan.phases planned.cells (all-from IsOnePhase plan.phases (λ phase h. (from-all (IsPhaseOf e words) plan.phases phase planned.phases h).one)) planned.rise in
        record {
          launched = subst (λ (n : ℕ). IsLaunched job.pred (pos n) job.chunk plan.instances) (sym long) planned.instances;
          keys = keys;
          are_keys = are;
          count_keys = many;
          cells = cells_of plan.phases;
          are_cells = planned.cells;
          count_cells = sym planned.tiles;
        }

    pub committed : (after closing : List ℤ) (rest used taken : ℕ) → Succeeds job.pred job.loops job.outer job.chunk a.words a.scalars a.steps.left after rest → closing ≡ scalars_at job.pred (behind job.pred job.chunk) → taken ≡ a.steps.left - rest → used ≡ a.steps.used + taken
        → IsCommitted e job.loops job.outer a (between after closing (record { left = rest; used = used })) plan.instances (length plan.phases) plan.tiles taken
    committed after closing rest used taken done close took all =
        let few = done.suffice in
        let same : taken ≡ done.steps = omega (arith, few, took) in
        subst (λ (us : List ℤ). IsCommitted e job.loops job.outer a (between after us (record { left = rest; used = used })) plan.instances (length plan.phases) plan.tiles taken) (sym close) (record {
          follows = follows D job words task a size after rest done;
          plain = leads-to D job words task a size after rest done used (let n : used ≡ a.steps.used + done.steps = omega (arith, all, same) in n);
          taken = record { left = omega (arith, few, same); used = all };
          numbers = numbers;
        })

-- a plan's phases have few cells
pub few-cells : (e : Extent) (words : ℕ) (plan : ChunkPlan) → IsPlanOf e words plan → All (λ (phase : Phase). length phase.cells < 2 ^ 32) plan.phases
few-cells e words plan planned k d inside = by plan.phases k inside (let m = planned.tiles in let n = planned.few in omega (arith, m, n))
  where
    by : (phases : List Phase) (k : ℕ) → k < length phases → length (cells_of phases) < 2 ^ 32 → length (get_or phases k d).cells < 2 ^ 32
    by [] k l few = absurd (omega arith)
    by (phase ∷ phases) zero l few = let e = length-append phase.cells (cells_of phases) in omega (arith, e, few)
    by (phase ∷ phases) (suc k) l few = by phases k (omega arith) (let e = length-append phase.cells (cells_of phases) in omega (arith, e, few))
