use Rattle.std.proofs.Common.{◌≡◌, ap₂, sym, subst, ◌∙◌, ℕ, ◌++◌, List, Option, arith}
use Rattle.std.specs.Option.{option_to_list}
use Rattle.transform.specs.Schedules.{Schedule}
use Rattle.controller.proofs.CandidateLaws.{standards-all, standards-more, standards_to}
use Rattle.controller.proofs.course.standards.Goals as goal

pub returns : goal.returns
returns g c =
    let n : c.loop-place.place ≡ 5 = omega arith in
    subst (λ (k : ℕ). c.loop-place.schedules.items ≡ standards_to g.row.D k) n c.loop-place.invariant ∙ standards-all g.row.D

pub loop-place-preserved : goal.loop-place-preserved
loop-place-preserved g c =
    c.in_ok-add.ensures
    ∙ ap₂ (λ (ss : List Schedule) (o : Option Schedule). ss ++ option_to_list o) c.loop-place.invariant c.standard-schedule.ensures
    ∙ sym (standards-more g.row.D c.loop-place.place)
