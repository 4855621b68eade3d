-- Phased: a phase of a chunk that is ready, as it is posted, and what its run says of the chunk.
use Rattle.std.proofs.Common.{◌≡◌, sym, ap, ◌∙◌, subst, ℕ, zero, suc, ◌<◌, List, [], ◌∷◌, length, get_or, Option, arith}
use Rattle.core_steps.specs.declared.plan.Plan.{Plan}
use Rattle.atomic_table.specs.Seated.{TableId}
use Rattle.shared_words.specs.Memories.{signed}
use Rattle.domain.specs.Instances.{Instance}
use Rattle.skeletons.specs.Cells.{Extent, AreListsOf}
use Rattle.follow_chunk.specs.Tasks.{TaskState}
use Rattle.tiles.specs.Plans.{ChunkPlan, Phase}
use Rattle.crew.specs.declared.handed.Handed.{Handed}
use Rattle.phase_run.specs.Postings.{PostingState, IsPostable}
use Rattle.phase_run.specs.Phases.{PhaseRan, OthersKeep, GainsEntry}
use Rattle.chunk_run.specs.Parts.{HasSteps, ChangesChunk, phase_at}
use Rattle.chunk_run.specs.Ready.{IsReady}
use Rattle.chunk_run.specs.Groups.{GainsPhase}
use Rattle.chunk_run.proofs.PhasePlanLaws.{cells-long}
use Rattle.chunk_run.proofs.ReadyPhaseLaws.{is-phase, postable}
use Rattle.chunk_run.proofs.RunningLaws.{has-steps, changes-chunk}

-- the phase that stands at a place
pub at-number : (phases : List Phase) (number : ℕ) (p : Phase) → number < length phases → p ≡ get_or phases number p → p ≡ phase_at phases number
at-number [] number p l is = absurd (omega arith)
at-number (q ∷ phases) zero p l is = is
at-number (q ∷ phases) (suc number) p l is = at-number phases number p (omega arith) is

module _ (D words workers : ℕ) (k : TaskState) (e : Extent) (plan : ChunkPlan) (ready : IsReady D words workers k e plan) (number : ℕ) (inside : number < length plan.phases)
    (lists : List (List Instance)) (are : AreListsOf e (phase_at plan.phases number).cells lists) (table : TableId) (p : PostingState) (is : p ≡ record { table = table; lists = lists; plan = (phase_at plan.phases number).plan; number = number; workers = workers }) where
  pub may-post : IsPostable D words k p
  may-post = subst (IsPostable D words k) (sym is) (postable D words workers k e plan ready number inside lists are table)

  pub followed-phase : (base after : List ℕ) (result : Option ℕ) → PhaseRan k p.lists base after result → HasSteps e k.loops k.outer (phase_at plan.phases number).cells (signed base) result (signed after)
  followed-phase base after result ran =
      has-steps k e (phase_at plan.phases number).cells lists base after result ready.same_table are (subst (λ (ls : List (List Instance)). PhaseRan k ls base after result) (ap (λ (q : PostingState). q.lists) is) ran)

  pub changed-phase : (base after : List ℕ) → OthersKeep p.plan base after → ChangesChunk k.pred k.chunk (signed base) (signed after)
  changed-phase base after keep =
      changes-chunk e words k.pred k.chunk (phase_at plan.phases number).cells (phase_at plan.phases number).plan base after ready.same_table ready.same_chunk (is-phase D words workers k e plan ready number inside).tiles
      (subst (λ (q : Plan). OthersKeep q base after) (ap (λ (q : PostingState). q.plan) is) keep)

  pub gained-phase : (result : Option ℕ) (old new : List Handed) → GainsEntry k p result old new → GainsPhase k.chunk.first workers number (length (phase_at plan.phases number).cells) result old new
  gained-phase result old new g = record {
    entry = g.entry;
    gained = g.gained;
    is = record {
      from = (g.is).first;
      with_workers = (g.is).workers ∙ ap (λ (q : PostingState). q.workers) is;
      of_phase = (g.is).phase ∙ ap (λ (q : PostingState). q.number) is;
      over_tiles = (g.is).tiles ∙ ap (λ (q : PostingState). length q.lists) is ∙ cells-long e words (phase_at plan.phases number).cells lists are;
    };
    told = (g.is).steps_are;
  }
