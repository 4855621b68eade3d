-- What an instance of a launched chunk is, and what comes after it.
use Rattle.std.proofs.Common.{◌≡◌, sym, subst, ℕ, ◌<◌, ◌⊎◌, ℤ, ◌+ℤ◌, List, length, get_or, inl, inr, arith}
use Rattle.std.proofs.lemmas.Int.{ints}
use Rattle.nest_lang.specs.declared.tree.Loop.{Loop}
use Rattle.nest_lang.specs.declared.tree.Part.TheVariants.{Pre}
use Rattle.nest_lang.specs.declared.state.Outer.{Outer}
use Rattle.nest_lang.specs.Blocks.{block_ref, present_blocks}
use Rattle.domain.specs.declared.chunk.Chunk.{Chunk}
use Rattle.domain.specs.Tables.{Table, block_at}
use Rattle.domain.specs.Instances.{Instance, Predicted, IsInstance, opening_at}
use Rattle.domain.specs.Shapes.{IsBlockOf}
use Rattle.domain.specs.Steps.{next, CanTurn}
use Rattle.domain.proofs.OriginalLaws.{successor-law, opening-is}
use Rattle.follow_chunk.specs.Tasks.{TaskState, IsTask}
use Rattle.follow_chunk.proofs.NestInstanceLaws.{get-here}
use Rattle.follow_chunk.proofs.PlacingLaws.{below}

pub block-of-rank : (D : ℕ) (job : TaskState) (words : ℤ) → IsTask D job words → (rank : ℕ) → rank < length job.pred.blocks
    → IsBlockOf job.scalars job.loops (get_or (present_blocks job.loops) rank (block_ref Pre 0)) (block_at job.pred rank)
block-of-rank D job words task rank l =
    (task.table).each rank (get_or (present_blocks job.loops) rank (block_ref Pre 0)) (get-here (present_blocks job.loops) rank (block_ref Pre 0) (let e = (task.table).count in omega arith))

module _ (D : ℕ) (job : TaskState) (words : ℤ) (task : IsTask D job words) (x : Instance) (p : Predicted job.pred job.chunk x) where
  pub can-turn : CanTurn x.at
  can-turn k = let soon = task.soon in omega (arith, ints, below D job words task x p k)

  -- what comes after it is an instance too
  pub next-instance : IsInstance job.pred (next job.pred x)
  next-instance = by (successor-law D job.pred task.shape job.chunk x p).is
    where
      by : Predicted job.pred job.chunk (next job.pred x) ⊎ (next job.pred x ≡ opening_at job.pred (job.chunk.first +ℤ job.chunk.turns)) → IsInstance job.pred (next job.pred x)
      by (inl good) = good.is
      by (inr e) = subst (IsInstance job.pred) (sym e) (opening-is D job.pred task.shape job.chunk (job.chunk.first +ℤ job.chunk.turns)).0
