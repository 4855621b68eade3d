-- Opening: the scalars of the first block at a turn.
use Rattle.std.proofs.Common.{◌≡◌, sym, ap, ◌∙◌, ap₂, subst, ℕ, ◌≤◌, ℤ, pos, ◌+ℤ◌, ◌≤ℤ◌, FitsSigned, w64, to_z, of_z, List, length, arith}
use Rattle.std.proofs.lemmas.Int.{ints, to_z-of_z}
use Rattle.nest_lang.specs.declared.tree.Loop.{Loop}
use Rattle.nest_lang.specs.declared.state.Outer.{Outer}
use Rattle.domain.specs.declared.chunk.Chunk.{Chunk}
use Rattle.domain.specs.Tables.{Table}
use Rattle.domain.specs.Instances.{Instance, block_of, opening_at}
use Rattle.domain.proofs.OriginalLaws.{opening-is}
use Rattle.follow_chunk.specs.Tasks.{TaskState, IsTask}
use Rattle.follow_chunk.specs.Predicted.{scalars_at}
use Rattle.follow_chunk.proofs.PredictingLaws.{length-scalars}
use Rattle.follow_chunk.proofs.LaunchedInstanceLaws.{block-of-rank}
use Rattle.chunk_run.proofs.ScheduleLaws.{from-position}

module _ (D : ℕ) (job : TaskState) (words : ℤ) (task : IsTask D job words) (turn : ℤ) (x : Instance) (is : x ≡ opening_at job.pred turn) where
  pub count-opening : length (block_of job.pred x).scalars ≡ job.scalars
  count-opening =
      ap (λ (y : Instance). length (block_of job.pred y).scalars) is
      ∙ (block-of-rank D job words task 0 (opening-is D job.pred task.shape job.chunk turn).0.block).forms

  pub length-opening : length (scalars_at job.pred x) ≡ job.scalars
  length-opening = length-scalars job.pred x ∙ count-opening

  pub few-opening : job.scalars ≤ 16
  few-opening = let f = ((task.shape).blocks 0 (opening-is D job.pred task.shape job.chunk turn).0.block).scalars in let c = count-opening in let e = ap (λ (y : Instance). length (block_of job.pred y).scalars) is in omega (arith, f, c, e)

-- the turns at which a chunk begins, and behind it, are i64s
module _ (D : ℕ) (job : TaskState) (words : ℤ) (task : IsTask D job words) where
  first-from : pos 0 ≤ℤ job.chunk.first
  first-from = subst (λ (z : ℤ). pos 0 ≤ℤ z) (sym task.first) (from-position job.loops job.outer task.position)

  pub first-is : to_z w64 (of_z w64 job.chunk.first) ≡ job.chunk.first
  first-is = let f = first-from in let s = task.soon in let fits : FitsSigned w64 job.chunk.first = omega (arith, ints, f, s) in to_z-of_z w64 job.chunk.first fits

  turns-are : to_z w64 (of_z w64 job.chunk.turns) ≡ job.chunk.turns
  turns-are = let f = task.some in let s = task.most in let fits : FitsSigned w64 job.chunk.turns = omega (arith, ints, f, s) in to_z-of_z w64 job.chunk.turns fits

  pub behind-is : to_z w64 (of_z w64 (to_z w64 (of_z w64 job.chunk.first) +ℤ to_z w64 (of_z w64 job.chunk.turns))) ≡ job.chunk.first +ℤ job.chunk.turns
  behind-is =
      let f = first-from in let s = task.soon in let a = task.some in let b = task.most in
      let fits : FitsSigned w64 (job.chunk.first +ℤ job.chunk.turns) = omega (arith, ints, f, s, a, b) in
      ap₂ (λ (m n : ℤ). to_z w64 (of_z w64 (m +ℤ n))) first-is turns-are ∙ to_z-of_z w64 (job.chunk.first +ℤ job.chunk.turns) fits
