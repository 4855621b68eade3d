use Rattle.std.proofs.Common.{◌≡◌, ℕ, [], ◌∷◌, ◌++◌, subst, rules}
use Rattle.journeys.specs.Settings.{Setting, Moment, observed}
use Rattle.journeys.specs.Tellings.{unfit_line}
use Rattle.controller.specs.declared.stage.Stage.TheVariants.{Plainly}
use Rattle.controller.specs.Courses.{IsJudged}
use Rattle.controller.proofs.JudgedLaws.{unfit-judged}
use Rattle.controller.proofs.judging.judge.Goals as goal

pub returns-in_ok-push-in-Err-Unfit : goal.returns-in_ok-push-in-Err-Unfit
returns-in_ok-push-in-Err-Unfit g c =
    let it = c.course.inside in
    let s : Setting = record { loops = it.nest.now.loops; scalars = it.scalars; candidates = it.candidates.items; sample = it.sample; chunk = it.chunk } in
    let is = rw c.in-Err-Unfit.field-0-is at c.in-Err-Unfit.ensures in
    let told : c.push.new.self.items ≡ c.args.lines.now.items ++ unfit_line it.nest.now.loops c.in-Err-Unfit.unfit ∷ [] = search rules in
    subst (λ (x : Setting). (m : Moment) (turns : ℕ) → c.args.samples.now ≡ observed x m turns → IsJudged {D = g.row.D} x c.args.samples.now c.args.lines.now.items (Plainly it.chunk) c.push.new.self.items) c.course.view_is
    (λ m turns same. unfit-judged {D = g.row.D} s c.args.samples.now c.in-Err-Unfit.unfit c.args.lines.now.items c.push.new.self.items c.course.invariant.depth c.course.invariant.chunk_from is told)
