use Rattle.std.proofs.Common.{List, ap, ◌∙◌, refl}
use Rattle.report.specs.declared.runs.WordRun.{WordRun}
use Rattle.report.specs.Outcomes.{outcome_lines}
use Rattle.report.proofs.RunLaws.{longest-runs}
use Rattle.report.proofs.OneList.{same-runs}
use Rattle.report.proofs.laws.one_outcome.Goals as goal

pub returns : goal.returns
returns c = λ names store ending steps.
    let found = longest-runs store.memory in (
      outcome_lines names store.scalars found.0 ending steps,
      (found.0, found.1, refl),
      λ bytes is.
          is.2 ∙ ap (λ (runs : List WordRun). outcome_lines names store.scalars runs ending steps) (same-runs store.memory is.0 found.0 is.1 found.1),
    )
