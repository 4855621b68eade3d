use Rattle.report.proofs.RunLaws.{longest-runs}
use Rattle.report.proofs.OneList.{same-runs}
use Rattle.report.proofs.laws.one_list_of_runs.Goals as goal

pub returns : goal.returns
returns c = λ memory.
    let found = longest-runs memory in
    (found.0, found.1, λ other so. same-runs memory other found.0 so found.1)
