-- Running: what a phase that was run is of its chunk.
use Rattle.std.proofs.Common.{◌≡◌, sym, ap, ◌∙◌, subst, ℕ, ◌<◌, ◌≤◌, ◌-◌, true, ℤ, pos, List, length, get_or, Option, Some, None, arith}
use Rattle.std.specs.Int.{w64, cast_signed}
use Rattle.std.proofs.Math.ListN.{get_or-map}
use Rattle.std.proofs.lemmas.List.{length-map}
use Rattle.nest_lang.specs.declared.tree.Loop.{Loop}
use Rattle.nest_lang.specs.declared.state.Outer.{Outer}
use Rattle.core_steps.specs.declared.plan.Plan.{Plan}
use Rattle.core_steps.specs.Plans.{writes}
use Rattle.orders.specs.Runs.{Outcome}
use Rattle.orders.specs.Tiles.{flat}
use Rattle.orders.proofs.SwapLaws.{some-injective}
use Rattle.domain.specs.declared.chunk.Chunk.{Chunk}
use Rattle.domain.specs.Tables.{Table}
use Rattle.domain.specs.Instances.{Instance, Predicted}
use Rattle.domain.specs.Footprints.{Writes}
use Rattle.shared_words.specs.Memories.{signed}
use Rattle.skeletons.specs.Cells.{Cell, Extent, AreListsOf}
use Rattle.follow_chunk.specs.Tasks.{TaskState}
use Rattle.tiles.specs.Plans.{AreTilesOf}
use Rattle.verified_turns.proofs.FollowingLaws.{runs-are-follow-runs}
use Rattle.phase_run.specs.Phases.{PhaseRan, OthersKeep}
use Rattle.chunk_run.specs.Parts.{Takes, HasSteps, IsPartOf, ChangesChunk}
use Rattle.chunk_run.proofs.CellListLaws.{lists-unique}
use Rattle.chunk_run.proofs.PhasePlanLaws.{tile-written}

-- ---- what a phase was run as

takes : (k : TaskState) (lists : List (List Instance)) (base after : List ℕ) (result : Option ℕ) → PhaseRan k lists base after result → Takes k.pred k.loops k.outer (flat lists) (signed base) result (signed after)
takes k lists base after (Some steps) ran = (sym (runs-are-follow-runs k.pred k.loops k.outer (length base) (flat lists) (signed base)) ∙ ran.run, ran.each)
takes k lists base after None ran = sym (runs-are-follow-runs k.pred k.loops k.outer (length base) (flat lists) (signed base)) ∙ ran

pub has-steps : (k : TaskState) (e : Extent) (cells : List Cell) (lists : List (List Instance)) (base after : List ℕ) (result : Option ℕ) → e.table ≡ k.pred → AreListsOf e cells lists → PhaseRan k lists base after result
    → HasSteps e k.loops k.outer cells (signed base) result (signed after)
has-steps k e cells lists base after result table are ran others also =
    subst (λ (t : Table). Takes t k.loops k.outer (flat others) (signed base) result (signed after)) (sym table)
    (subst (λ (ls : List (List Instance)). Takes k.pred k.loops k.outer (flat ls) (signed base) result (signed after)) (lists-unique e cells lists others are also) (takes k lists base after result ran))

-- ---- within the steps that are left

module _ (e : Extent) (loops : List Loop) (o : Outer) (cells : List Cell) (m v : List ℤ) (left : ℕ) where
  pub part-within : (steps : ℕ) → HasSteps e loops o cells m (Some steps) v → steps ≤ left → IsPartOf e loops o cells m left (Some (left - steps)) v
  part-within steps has few lists are = let t = has lists are in record { steps = steps; run = t.0; suffice = omega (arith, few); closes = t.1 }

  pub part-long : (steps : ℕ) → HasSteps e loops o cells m (Some steps) v → left < steps → IsPartOf e loops o cells m left None v
  part-long steps has more lists are r is =
      let t = has lists are in
      let same = ap (λ (z : Outcome). z.steps) (some-injective _ _ (sym t.0 ∙ is)) in
      omega (arith, more, same)

  pub part-none : HasSteps e loops o cells m None v → IsPartOf e loops o cells m left None v
  part-none has lists are r is = absurd (let g : None ≡ Some r = sym (has lists are) ∙ is in cc)

-- ---- what changes

pub changes-chunk : (e : Extent) (words : ℕ) (t : Table) (chunk : Chunk) (cells : List Cell) (plan : Plan) (base after : List ℕ) → e.table ≡ t → e.chunk ≡ chunk → AreTilesOf e words cells plan.tiles → OthersKeep plan base after
    → ChangesChunk t chunk (signed base) (signed after)
changes-chunk e words t chunk cells plan base after table same tiles keep = record {
  long = length-map after (cast_signed w64) ∙ keep.long ∙ sym (length-map base (cast_signed w64));
  others = λ address away. at after address ∙ ap (cast_signed w64) (keep.others address (unwritten address away)) ∙ sym (at base address);
}
  where
    at : (bits : List ℕ) (address : ℕ) → get_or (signed bits) address (pos 0) ≡ cast_signed w64 (get_or bits address 0)
    at bits address = get_or-map (cast_signed w64) bits address 0

    unwritten : (address : ℕ) → ((x : Instance) → Predicted t chunk x → Writes t x (pos address) → ⊥) → (tile : ℕ) → writes plan tile address ≡ true → ⊥
    unwritten address away tile inside =
        let w = tile-written e words cells plan.tiles tile address tiles inside in
        away w.0 (subst (λ (u : Table). Predicted u chunk w.0) table (subst (λ (c : Chunk). Predicted e.table c w.0) same w.1)) (subst (λ (u : Table). Writes u w.0 (pos address)) table w.2)
