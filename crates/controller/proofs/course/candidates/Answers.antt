use Rattle.std.proofs.Common.{◌≡◌, ◌∙◌, length, rules}
use Rattle.controller.proofs.CandidateLaws.{candidates-own, candidates-standard}
use Rattle.controller.proofs.PlainTurnLaws.{if-ok}
use Rattle.controller.proofs.course.candidates.Goals as goal

pub returns-then-is_empty : goal.returns-then-is_empty
returns-then-is_empty g c =
    let none : length c.args.scripts.now ≡ 0 = search rules in
    if-ok _ _ (λ schedules is. is ∙ candidates-standard g.row.D c.args.scripts.now none) c.standards.result c.standards.ensures

pub returns-else-is_empty : goal.returns-else-is_empty
returns-else-is_empty g c =
    if-ok _ _ (λ schedules is. is ∙ candidates-own g.row.D c.args.scripts.now (search rules)) c.schedules_of.result c.schedules_of.ensures
