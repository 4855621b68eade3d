-- What threads share of a worker, and that a worker may go to another thread.
use Rattle.std.proofs.Common.{ℕ}
use denote.RattleType.{RattleType}
use denote.Ref.{NamedLft}
use mir.Syntax.{ty_unit}
use denote.Exit.{Kept}
use denote.Param.{value_of, param, arg}
use denote.Param.Send.{IsSend, IsSync, sendable, plain_send, plain_sync, view_send, view_sync, recorded_send, recorded_sync, struct_send, struct_sync, enum_sync, shr_send, param_send, arg_send}
use denote.Struct.Declared.{shape}
use denote.Enum.Declared as enum
use Rattle.std.proofs.Crossing.{crosses}
use Rattle.atomic_table.proofs.shared.Seat.TheSendSync as Seats
use Rattle.atomic_table.proofs.shared.Shared.TheSendSync as Tables
use Rattle.atomic_table.proofs.send_lease.SendLease.TheSendSync as Leases
use Rattle.domain.proofs.prediction.Prediction.TheSendSync as Predictions
use Rattle.nest_lang.proofs.tree.Place.TheSendSync as Place
use Rattle.nest_lang.proofs.tree.Op.TheSendSync as Op
use Rattle.nest_lang.proofs.tree.Expr.TheLaws.TheKnot as ExprKnot
use Rattle.nest_lang.proofs.tree.Stmt.TheLaws.TheKnot as StmtKnot
use Rattle.nest_lang.specs.contracts.tree.Expr as Expr
use Rattle.nest_lang.specs.contracts.tree.Stmt as Stmt
use Rattle.nest_lang.specs.contracts.tree.Head as Head
use Rattle.nest_lang.specs.contracts.tree.Loop as Loop
use Rattle.nest_lang.specs.contracts.tree.Nest as Nest
use Rattle.sqlite_items.specs.contracts.boxed.Boxed as Boxed
use Rattle.sqlite_items.specs.contracts.items.Items as Items
use Rattle.domain.specs.contracts.prediction.Prediction as Prediction
use Rattle.shared_words.specs.contracts.words.SharedWords as SharedWords
use Rattle.shared_words.specs.contracts.words.SharedWords.TheInside as Words
use Rattle.shared_words.specs.contracts.work_seat.WorkSeat as WorkSeat
use Rattle.skeletons.specs.declared.walk.Walk.{Ghosts}
use Rattle.verified_turns.specs.contracts.worker.Outcome as Outcome
use Rattle.follow_chunk.specs.contracts.task.Task as Task
use Rattle.verified_turns.specs.contracts.worker.Worker as Worker
use Rattle.verified_turns.specs.contracts.worker.Worker.TheInside as Inside
use Rattle.std.specs.contracts.option.Option as Option

boxed-sync : (T : RattleType) → IsSync T → IsSync (Boxed.the_row T)
boxed-sync T s = search (sendable, crosses) depth 40

items-sync : (T : RattleType) → IsSync T → IsSync (Items.the_row T)
items-sync T s = search (sendable, crosses) depth 40

expr-field-sync : IsSync (Expr.the_field).row
expr-field-sync = ExprKnot.sync-Expr (plain_sync _ _ _ _ _) Place.the_field_sync (plain_sync _ _ _ _ _) boxed-sync Op.the_field_sync

stmt-field-sync : IsSync (Stmt.the_field).row
stmt-field-sync = StmtKnot.sync-Stmt (plain_sync _ _ _ _ _) expr-field-sync items-sync

stmt-sync : IsSync Stmt.the_row
stmt-sync = recorded_sync (Stmt.the_field).row _ _ (Stmt.the_type).to_one stmt-field-sync

head-field-sync : IsSync (Head.the_field).row
head-field-sync = enum_sync (enum.shape Head.the_type) ((expr-field-sync, (expr-field-sync, (plain_sync _ _ _ _ _, tt))), ((expr-field-sync, tt), tt))

loop-sync : IsSync Loop.the_row
loop-sync = recorded_sync (Loop.the_field).row _ _ (Loop.the_type).to_one (struct_sync (shape Loop.the_type) (head-field-sync, (items-sync _ stmt-sync, (items-sync _ stmt-sync, tt))))

nest-sync : IsSync Nest.the_row
nest-sync = recorded_sync (Nest.the_field).row _ _ (Nest.the_type).to_one (struct_sync (shape Nest.the_type) (items-sync _ loop-sync, tt))

prediction-sync : (D : RattleType) → IsSync (Prediction.the_row D)
prediction-sync D = Predictions.the_sync D

task-sync : (κ : NamedLft) (D : RattleType) → IsSync (Task.the_row κ D)
task-sync κ D = search (sendable, crosses, nest-sync, prediction-sync) depth 40

table-sync : IsSync (Words.the_row)
table-sync = search (sendable, crosses, Tables.the_sync, Leases.the_sync) depth 40

words-sync : IsSync SharedWords.the_row
words-sync = view_sync _ _ _ _ _ table-sync

seat-send : IsSend WorkSeat.the_row
seat-send = search (sendable, crosses, Seats.the_send) depth 40

end-send : (D : RattleType) → IsSend (Option.the_field (Outcome.the_row D)).row
end-send D = search (sendable, crosses) depth 40

inside-send : (κ : NamedLft) (W D : RattleType) (g : Ghosts W.Denot (value_of D)) → IsSend W → IsSend (Inside.the_row κ W D g)
inside-send κ W D g walk =
    recorded_send (Inside.the_field κ W D g).row _ _ (Inside.the_type κ W D g).to_one (struct_send (shape (Inside.the_type κ W D g)) (
      plain_send _ _ _ _ _,
      (seat-send, (shr_send _ _ _ words-sync, (shr_send _ _ _ (task-sync κ D), (walk, (plain_send _ _ _ _ _, (plain_send _ _ _ _ _, (plain_send _ _ _ _ _, (end-send D, tt)))))))),
    ))

worker-send : (κ : NamedLft) (W D : RattleType) (g : Ghosts W.Denot (value_of D)) → IsSend W → IsSend (Worker.the_row κ W D g)
worker-send κ W D g walk = view_send (Inside.the_row κ W D g) _ _ _ _ (inside-send κ W D g walk)

-- as an argument of a call, which has a layout of its own
pub job-send : (i : ℕ) (k : Kept) (κ : NamedLft) (W D : RattleType) (g : Ghosts W.Denot (value_of D)) → IsSend W → IsSend (param i (arg ty_unit k (Worker.the_row κ W D g)))
job-send i k κ W D g walk = param_send i (arg ty_unit k (Worker.the_row κ W D g)) (arg_send ty_unit k (Worker.the_row κ W D g) (worker-send κ W D g walk))
