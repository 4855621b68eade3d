-- The instance of a deviation is one of a present block.
use Rattle.std.proofs.Common.{◌≡◌, ap, ap₂, sym, subst, ◌∙◌, ℕ, suc, ◌+◌, ◌<◌, ℤ, ◌+ℤ◌, true, List, [], ◌∷◌, ◌++◌, length, get_or, Option, Some, unwrap_or, arith}
use Rattle.std.specs.Prelude.{slice_get, is_some}
use Rattle.std.specs.List.{AllByRecursion}
use Rattle.std.proofs.lemmas.Option.{slice_get_within, slice_get-get_or}
use Rattle.nest_lang.specs.declared.tree.BlockRef.{BlockRef}
use Rattle.nest_lang.specs.declared.tree.Loop.{Loop}
use Rattle.nest_lang.specs.declared.tree.Part.TheVariants.{Pre}
use Rattle.nest_lang.specs.Blocks.{block_ref, present_blocks}
use Rattle.nest_lang.specs.Blocks as blocks
use Rattle.nest_lang.specs.Lookups.{plain}
use Rattle.nest_lang.specs.Traces.{Occurrence, Observation, Finish, Done, Halted, Limited, cut, seen_in}
use Rattle.nest_lang.specs.Statements.{scalars_from}
use Rattle.nest_lang.proofs.RankLaws.{ranks-are-numbers}
use Rattle.domain.specs.declared.chunk.Chunk.{Chunk}
use Rattle.domain.specs.Tables.{Table, Block, IsTable, block_at, rank_of}
use Rattle.domain.specs.Instances.{Instance, opening_at}
use Rattle.domain.specs.Shapes.{IsTableOf}
use Rattle.follow.specs.Plans.{frame_with}
use Rattle.follow.specs.ChunkRuns.{ChunkRun, closing_at}
use Rattle.follow.specs.Deviations.{Deviation, Differs, Halts, Limit, IsDeviation}
use Rattle.follow.proofs.PlannedOrderLaws.{all-append}
use Rattle.follow_chunk.specs.declared.task.Deviation as code
use Rattle.follow_chunk.specs.Predicted.{instance_of, occurrence_of, forecast_of}
use Rattle.follow_chunk.proofs.RankLaws.{rank-same}
use Rattle.compare.specs.ChainLaw.{behind}
use Rattle.compare.specs.Compared.{due_after, instance_in, IsDeviationOf}
use Rattle.journeys.specs.Settings.{Setting, Moment, next_turns, next_chunk, chunk_turns}
use Rattle.journeys.specs.Stages.{chunk_run_from}
use Rattle.controller.proofs.PresentTurnLaws.{IsPresent, turns-show-present}

all-middle : {A : Type 0} (P : A → Type 0) (xs : List A) (x : A) (ys : List A) → AllByRecursion P (xs ++ x ∷ ys) → P x
all-middle P [] x ys h = h.0
all-middle P (y ∷ xs) x ys h = all-middle P xs x ys h.1

module _ (scalars : ℕ) (loops : List Loop) (t : Table) (is : IsTableOf scalars loops t) (some : 0 < length t.blocks) where
  -- an instance of a present block
  abbrev IsPlace : Instance → Type 0
  IsPlace x = x.block < length (present_blocks loops)

  abbrev Present : Observation → Type 0
  Present o = IsPresent loops o.at

  present-place : (i : Occurrence) → IsPresent loops i → IsPlace (instance_of t i)
  unfolding instance_of
  present-place i p =
      let same : rank_of t i.block.part i.block.level ≡ Some p.0 = rank-same scalars loops t is i.block ∙ p.1 in
      let number : slice_get (present_blocks loops) p.0 ≡ Some i.block = (ranks-are-numbers loops i.block p.0).0 p.1 in
      subst (λ (r : Option ℕ). unwrap_or r (length t.blocks) < length (present_blocks loops)) (sym same) (slice_get_within (present_blocks loops) p.0 i.block number)

  due-place : (x : Instance) (shown : List Observation) → IsPlace x → AllByRecursion Present shown → IsPlace (due_after t x shown)
  due-place x [] here all = here
  due-place x (o ∷ os) here all = due-place (instance_of t o.at) os (present-place o.at all.0) all.1

  opening-place : (turn : ℤ) → IsPlace (opening_at t turn)
  opening-place turn = let count = is.count in omega (arith, count, some)

  -- the first block is present
  first-present : (turn : ℤ) → IsPresent loops (occurrence_of t (opening_at t turn))
  unfolding occurrence_of
  first-present turn =
      let first : BlockRef = get_or (present_blocks loops) 0 (block_ref Pre 0) in
      let within : 0 < length (present_blocks loops) = (let count = is.count in omega (arith, count, some)) in
      let at : slice_get (present_blocks loops) 0 ≡ Some first = slice_get-get_or (present_blocks loops) 0 (block_ref Pre 0) within in
      let block = is.each 0 first at in
      let same : block_ref (block_at t 0).part (block_at t 0).level ≡ first = ap₂ block_ref block.part block.level in
      (0, ap (blocks.rank_of loops) same ∙ (ranks-are-numbers loops first 0).1 at)

  scalars-present : (i : Occurrence) (number : ℕ) (vs : List ℤ) → IsPresent loops i → AllByRecursion Present (scalars_from (frame_with i [] plain) number vs)
  scalars-present i number [] p = tt
  scalars-present i number (v ∷ vs) p = (p, scalars-present i (suc number) vs p)

  closing-present : (i : Occurrence) (f : Finish) (vs : List ℤ) → IsPresent loops i → AllByRecursion Present (closing_at i f vs)
  closing-present i Done vs p = scalars-present i 0 vs p
  closing-present i (Halted halt) vs p = tt
  closing-present i Limited vs p = tt

  module _ (chunk : Chunk) (run : ChunkRun) (all : AllByRecursion Present run.observations) where
    instance-place : (d : Deviation) → IsDeviation (forecast_of t) run d → IsPlace (instance_in t chunk run.observations d)
    instance-place (Differs seen) first = present-place seen.at (all-middle Present first.before seen first.after (subst (λ (os : List Observation). AllByRecursion Present os) first.are all))
    instance-place (Halts halt) halts = due-place (opening_at t chunk.first) run.observations (opening-place chunk.first) all
    instance-place Limit limits = due-place (opening_at t chunk.first) run.observations (opening-place chunk.first) all

-- the deviation of the next chunk is at an instance of a present block
pub deviation-place : {D : ℕ} (scalars : ℕ) (g : Setting) (m : Moment) (t : Table) (d : code.Deviation D) → IsTableOf scalars g.loops t → 0 < length t.blocks
    → IsDeviationOf t (next_chunk g m) (chunk_run_from t g m) (Some d) → d.at.block < length (present_blocks g.loops)
deviation-place scalars g m t d is some h =
    let chunk = next_chunk g m in
    let trace = next_turns g m (chunk_turns g m) in
    let end = cut trace m.store m.left 0 in
    let shown : AllByRecursion (λ (o : Observation). IsPresent g.loops o.at) (seen_in trace m.left) = turns-show-present plain (m.left + 1) g.loops m.outer (chunk_turns g m) m.store m.left in
    let closing = closing-present scalars g.loops t is some (occurrence_of t (behind t chunk)) end.ending end.store.scalars (first-present scalars g.loops t is some (chunk.first +ℤ chunk.turns)) in
    let all = all-append (λ (o : Observation). IsPresent g.loops o.at) (seen_in trace m.left) (closing_at (occurrence_of t (behind t chunk)) end.ending end.store.scalars) shown closing in
    subst (λ (x : Instance). x.block < length (present_blocks g.loops)) (sym h.2) (instance-place scalars g.loops t is some chunk (chunk_run_from t g m) all h.0 h.1)

-- a table of a nest has a block
pub table-some : (D : ℕ) (t : Table) → IsTable D t → 0 < length t.blocks
table-some D t shape = by t.blocks shape.body
  where
    by : (bs : List Block) → is_some (rank_of (record t { blocks = bs }) Pre D) ≡ true → 0 < length bs
    by [] e = absurd (cc)
    by (b ∷ bs) e = omega arith
