use Rattle.std.proofs.Common.{sym, ap, ◌∙◌, subst, Some}
use Rattle.nest_lang.specs.Turns.{finish_of_turned}
use Rattle.follow.specs.declared.how.How.TheVariants as how
use Rattle.follow_chunk.specs.Tasks.{task_of}
use Rattle.compare.specs.Comparisons.{Comparison}
use Rattle.compare.specs.Compared.{IsFirstKept}
use Rattle.compare.proofs.ClosingLaws.{first-closes, ended-closes, trapped-closes, limited-closes, went-closes}
use Rattle.compare.proofs.KeptLaws.{first-exact}
use Rattle.compare.proofs.compare.Compare.close.Goals as goal

pub returns-then-is_some : goal.returns-then-is_some
returns-then-is_some g c =
    let kept =
    subst (λ (z : Comparison). IsFirstKept {D = g.row.D} z (finish_of_turned c.args.turned.now) c.args.scalars.now c.self.inside.first) c.self.view_is
    (first-closes _ (task_of c.self.inside.task) c.self.invariant c.self.inside.at c.self.inside.first (finish_of_turned c.args.turned.now) c.args.scalars.now (sym c.is_some.ensures ∙ c.if-is_some.true)) in
    record { kept = kept; first = first-exact g.row.D _ (finish_of_turned c.args.turned.now) c.args.scalars.now c.self.inside.first kept }

pub returns-in-Went : goal.returns-in-Went
returns-in-Went g c =
    let kept =
    subst (λ (z : Comparison). IsFirstKept {D = g.row.D} z (finish_of_turned c.args.turned.now) c.args.scalars.now c.closing.result) c.self.view_is
    (went-closes _ (task_of c.self.inside.task) c.self.invariant c.self.inside.at c.self.inside.first (finish_of_turned c.args.turned.now) c.args.scalars.now c.closing.result
    (sym c.is_some.ensures ∙ c.if-is_some.false) (ap finish_of_turned c.in-Went.is) c.closing.ensures) in
    record { kept = kept; first = first-exact g.row.D _ (finish_of_turned c.args.turned.now) c.args.scalars.now c.closing.result kept }

pub returns-in-Ended : goal.returns-in-Ended
returns-in-Ended g c =
    let kept =
    subst (λ (z : Comparison). IsFirstKept {D = g.row.D} z (finish_of_turned c.args.turned.now) c.args.scalars.now (Some (record { at = c.self.inside.at; how = how.Ended }))) c.self.view_is
    (ended-closes _ (task_of c.self.inside.task) c.self.invariant c.self.inside.at c.self.inside.first (finish_of_turned c.args.turned.now) c.args.scalars.now
    (sym c.is_some.ensures ∙ c.if-is_some.false) (ap finish_of_turned c.in-Ended.is)) in
    record { kept = kept; first = first-exact g.row.D _ (finish_of_turned c.args.turned.now) c.args.scalars.now (Some (record { at = c.self.inside.at; how = how.Ended })) kept }

pub returns-in-Trapped : goal.returns-in-Trapped
returns-in-Trapped g c =
    let kept =
    subst (λ (z : Comparison). IsFirstKept {D = g.row.D} z (finish_of_turned c.args.turned.now) c.args.scalars.now (Some (record { at = c.self.inside.at; how = how.Trap c.in-Trapped.trap }))) c.self.view_is
    (trapped-closes _ (task_of c.self.inside.task) c.self.invariant c.self.inside.at c.self.inside.first (finish_of_turned c.args.turned.now) c.args.scalars.now c.in-Trapped.trap
    (sym c.is_some.ensures ∙ c.if-is_some.false) (ap finish_of_turned c.in-Trapped.is)) in
    record { kept = kept; first = first-exact g.row.D _ (finish_of_turned c.args.turned.now) c.args.scalars.now (Some (record { at = c.self.inside.at; how = how.Trap c.in-Trapped.trap })) kept }

pub returns-in-Limited : goal.returns-in-Limited
returns-in-Limited g c =
    let kept =
    subst (λ (z : Comparison). IsFirstKept {D = g.row.D} z (finish_of_turned c.args.turned.now) c.args.scalars.now (Some (record { at = c.self.inside.at; how = how.Limit }))) c.self.view_is
    (limited-closes _ (task_of c.self.inside.task) c.self.invariant c.self.inside.at c.self.inside.first (finish_of_turned c.args.turned.now) c.args.scalars.now
    (sym c.is_some.ensures ∙ c.if-is_some.false) (ap finish_of_turned c.in-Limited.is)) in
    record { kept = kept; first = first-exact g.row.D _ (finish_of_turned c.args.turned.now) c.args.scalars.now (Some (record { at = c.self.inside.at; how = how.Limit })) kept }
