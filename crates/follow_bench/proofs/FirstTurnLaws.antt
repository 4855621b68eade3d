-- The first turn of the nest is a task, and its instance is predicted in it.
use Rattle.std.proofs.Common.{◌≡◌, sym, subst, ℕ, pos, List, [], ◌∷◌, Some}
use Rattle.nest_lang.specs.declared.state.Outer.{Outer}
use Rattle.nest_lang.specs.declared.tree.Loop.{Loop}
use Rattle.domain.specs.declared.chunk.Chunk.{Chunk}
use Rattle.domain.specs.Examples.{row}
use Rattle.domain.specs.Instances.{Instance, Predicted, instance}
use Rattle.domain.specs.Tables.{Table}
use Rattle.follow_chunk.specs.Laws.{one_row, one_turn, first_turn}
use Rattle.follow_chunk.specs.Tasks.{TaskState, IsTask}
use Rattle.follow_chunk.proofs.PremiseLaws.{here, premises-can-hold}

abbrev pub begins : Outer
begins = record { lower = pos 0; next = pos 0; left = Some 40 }

pub task-is : (job : TaskState) (n : ℕ) → job.scalars ≡ 0 → job.loops ≡ one_row → job.pred ≡ row → job.outer ≡ begins → job.chunk ≡ one_turn → n ≡ 40 → IsTask 1 job (pos n)
task-is job n a b c d e f = subst (λ (k : TaskState). IsTask 1 k (pos n)) (sym same) (subst (λ (z : ℕ). IsTask 1 first_turn (pos z)) (sym f) premises-can-hold)
  where
    same : job ≡ first_turn
    same = λ i. record { scalars = a i; loops = b i; pred = c i; outer = d i; chunk = e i }

pub predicted-is : (t : Table) (chunk : Chunk) (x : Instance) → t ≡ row → chunk ≡ one_turn → x ≡ instance 0 (pos 0 ∷ []) → Predicted t chunk x
predicted-is t chunk x a b c = subst (λ (z : Table). Predicted z chunk x) (sym a) (subst (λ (z : Chunk). Predicted row z x) (sym b) (subst (Predicted row one_turn) (sym c) here))
