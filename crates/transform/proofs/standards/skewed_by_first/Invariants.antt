use Rattle.std.proofs.Common.{◌≡◌}
use Rattle.transform.specs.Drafts.{drafted_all}
use Rattle.transform.specs.Standards.{skews}
use Rattle.transform.proofs.StandardLaws.{skews_from}
use Rattle.transform.proofs.standards.skewed_by_first.Given as goal

abbrev pub invariant-loop-row : goal.invariant-loop-row
invariant-loop-row g l = drafted_all g.row.D l.fn.draft (skews g.row.D) ≡ drafted_all g.row.D l.draft (skews_from l.row g.row.D)
