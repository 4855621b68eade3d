use Rattle.std.proofs.Common.{◌≡◌, ◌≤◌, sym, ◌∙◌, ap, subst, Option, Some, None, ℤ, FitsSigned, w64, to_z, of_z, arith, rules}
use Rattle.std.specs.Int.{w128}
use Rattle.std.proofs.lemmas.Int.{to_z-of_z}
use Rattle.std.proofs.lemmas.Bool.Decides.{nat_tests}
use Rattle.affine.specs.Forms.{Affine, value_at}
use Rattle.domain.specs.Tables.{Level, cut, level_at}
use Rattle.domain.specs.Instances.{Instance}
use Rattle.follow_chunk.specs.Tasks.{task_of}
use Rattle.follow_chunk.specs.Predicted.{value_or_zero}
use Rattle.follow_chunk.proofs.PlacingLaws.{lower-level, counters-deep}
use Rattle.follow_chunk.proofs.task.Task.lower.Goals as goal

pub overflow_cast-result : goal.overflow_cast-result
overflow_cast-result g c =
    let self = c.args.self.now in
    let task = c.requires.task in
    let same = ap (λ (y : Instance). y.at) c.inst.view_is in
    let some : 1 ≤ c.args.depth = (let test = c.if-depth-eq0.false in grind (arith, nat_tests)) in
    let deep = counters-deep g.row.D (task_of self) task.0 task.1 c.args.inst.now c.requires.predicted in
    let around = c.requires.around in
    let low = lower-level g.row.D (task_of self) task.0 task.1 c.args.inst.now.at c.args.depth c.requires.predicted.is.size some (omega arith) in
    let form : (level_at self.pred.now c.args.depth).lower ≡ Some c.in-Some.form = sym (ap (λ (l : Level). l.lower) (c.behind-self.view_is ∙ c.level.ensures.level)) ∙ c.in-Some.is in
    let value =
    c.at.ensures ∙ ap (value_at c.in-Some.form) (c.cut.ensures ∙ ap (cut c.args.depth) same)
    ∙ sym (ap (λ (f : Option Affine). value_or_zero f (cut c.args.depth c.args.inst.now.at)) form) in
    let read = to_z-of_z w128 c.at.result (search rules) in
    subst (FitsSigned w64) (low ∙ sym value ∙ sym read) (c.requires.fits some)

pub returns-in-Some : goal.returns-in-Some
returns-in-Some g c =
    let self = c.args.self.now in
    let task = c.requires.task in
    let same = ap (λ (y : Instance). y.at) c.inst.view_is in
    let some : 1 ≤ c.args.depth = (let test = c.if-depth-eq0.false in grind (arith, nat_tests)) in
    let deep = counters-deep g.row.D (task_of self) task.0 task.1 c.args.inst.now c.requires.predicted in
    let around = c.requires.around in
    let low = lower-level g.row.D (task_of self) task.0 task.1 c.args.inst.now.at c.args.depth c.requires.predicted.is.size some (omega arith) in
    let form : (level_at self.pred.now c.args.depth).lower ≡ Some c.in-Some.form = sym (ap (λ (l : Level). l.lower) (c.behind-self.view_is ∙ c.level.ensures.level)) ∙ c.in-Some.is in
    let value =
    c.at.ensures ∙ ap (value_at c.in-Some.form) (c.cut.ensures ∙ ap (cut c.args.depth) same)
    ∙ sym (ap (λ (f : Option Affine). value_or_zero f (cut c.args.depth c.args.inst.now.at)) form) in
    let read = to_z-of_z w128 c.at.result (search rules) in
    ap (λ (z : ℤ). to_z w64 (of_z w64 z)) read ∙ to_z-of_z w64 c.at.result (subst (FitsSigned w64) (low ∙ sym value) (c.requires.fits some)) ∙ value ∙ sym low

pub returns-in-None : goal.returns-in-None
returns-in-None g c =
    let self = c.args.self.now in
    let task = c.requires.task in
    let some : 1 ≤ c.args.depth = (let test = c.if-depth-eq0.false in grind (arith, nat_tests)) in
    let deep = counters-deep g.row.D (task_of self) task.0 task.1 c.args.inst.now c.requires.predicted in
    let around = c.requires.around in
    let low = lower-level g.row.D (task_of self) task.0 task.1 c.args.inst.now.at c.args.depth c.requires.predicted.is.size some (omega arith) in
    let form : (level_at self.pred.now c.args.depth).lower ≡ None = sym (ap (λ (l : Level). l.lower) (c.behind-self.view_is ∙ c.level.ensures.level)) ∙ c.in-None.is in
    sym (ap (λ (f : Option Affine). value_or_zero f (cut c.args.depth c.args.inst.now.at)) form) ∙ sym low
