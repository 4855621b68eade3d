use Rattle.std.proofs.Common.{◌≡◌, ◌∙◌, ap, sym, subst, refl, ℕ, pos, length, rules}
use Rattle.domain.specs.Tables.{Table, Block}
use Rattle.domain.specs.Instances.{Instance, block_of, Predicted}
use Rattle.domain.specs.Steps.{next}
use Rattle.core_steps.specs.declared.view.View.{View}
use Rattle.shared_words.specs.Memories.{shown}
use Rattle.follow_chunk.specs.Predicted.{scalars_at, interval_at}
use Rattle.follow_chunk.specs.Tasks.{task_of, IsTask}
use Rattle.follow_chunk.specs.Foreseen.{CanFollow}
use Rattle.follow_chunk.specs.Verifies.{VerifiesInstance}
use Rattle.verified_turns.specs.Ports.{own_expectation, MayTouch}
use Rattle.verified_turns.proofs.SeatMemoryLaws.{length-shown}
use Rattle.verified_turns.proofs.TouchLaws.{may-touch, verifies-instance}
use Rattle.verified_turns.proofs.worker.follow_on.Goals as goal

pub new-port-requires : goal.new-port-requires
new-port-requires g c =
    let self = c.args.task.now in
    let t = self.pred.now in
    let x = c.args.inst.now in
    let v = c.args.seat.now.view in
    let f = c.foreseen-foreseen.result in
    let found = c.foreseen-foreseen.ensures in
    let at : f.forms.now ≡ block_of t x = f.block ∙ ap (λ (s : Table). block_of s f.inst.now) found.pred ∙ ap (λ (z : Instance). block_of t z) found.inst in
    let may : MayTouch f.forms.now (interval_at t x) v = may-touch g.row.D (task_of self) (length v.base) x c.requires.task c.requires.predicted f.forms.now v at refl c.requires.may in
    let asked : MayTouch f.forms.now (interval_at f.pred.now f.inst.now) v =
    subst (λ (s : Table). MayTouch f.forms.now (interval_at s f.inst.now) v) (sym found.pred)
    (subst (λ (y : Instance). MayTouch f.forms.now (interval_at t y) v) (sym found.inst) may) in
    search rules

pub follow_verified-requires : goal.follow_verified-requires
follow_verified-requires g c =
    let self = c.args.task.now in
    let t = self.pred.now in
    let v = c.args.seat.now.view in
    let f = c.foreseen-foreseen.result in
    let found = c.foreseen-foreseen.ensures in
    let y = f.inst.now in
    let at : f.forms.now ≡ block_of t y = f.block ∙ ap (λ (s : Table). block_of s y) found.pred in
    let predicted : Predicted t self.chunk y = subst (λ (z : Instance). Predicted t self.chunk z) (sym found.inst) c.requires.predicted in
    let closes : scalars_at t f.next ≡ scalars_at t (next t y) = found.next ∙ ap (λ (z : Instance). scalars_at t (next t z)) (sym found.inst) in
    let verifies = verifies-instance g.row.D (task_of self) (length v.base) y c.requires.task predicted f.forms.now at in
    let port = c.new-port.result in
    let forms : port.foreseen.now.forms.now ≡ f.forms.now = ap (λ z. z.forms.now) c.new-port.ensures.foreseen in
    let pred : port.foreseen.now.pred.now ≡ t = ap (λ z. z.pred.now) c.new-port.ensures.foreseen ∙ found.pred in
    let inst : port.foreseen.now.inst.now ≡ y = ap (λ z. z.inst.now) c.new-port.ensures.foreseen in
    let own : VerifiesInstance (own_expectation port.foreseen.now.forms.now (interval_at port.foreseen.now.pred.now port.foreseen.now.inst.now)) t y =
    subst (λ (b : Block). VerifiesInstance (own_expectation b (interval_at port.foreseen.now.pred.now port.foreseen.now.inst.now)) t y) (sym forms)
    (subst (λ (s : Table). VerifiesInstance (own_expectation f.forms.now (interval_at s port.foreseen.now.inst.now)) t y) (sym pred)
    (subst (λ (z : Instance). VerifiesInstance (own_expectation f.forms.now (interval_at t z)) t y) (sym inst) verifies)) in
    let seat : port.seat.now.view ≡ v = ap (λ s. s.now.view) c.new-port.ensures.seat in
    let task : IsTask g.row.D (task_of self) (pos (length (shown port.seat.now.view))) =
    subst (λ (n : ℕ). IsTask g.row.D (task_of self) (pos n)) (sym (ap (λ (u : View). length (shown u)) seat ∙ length-shown v)) c.requires.task in
    let can : CanFollow (task_of self) f (own_expectation port.foreseen.now.forms.now (interval_at port.foreseen.now.pred.now port.foreseen.now.inst.now)) =
    record { few = c.requires.few; pred = found.pred; next = closes; task = (_, task); predicted = predicted; own = own } in
    search rules
