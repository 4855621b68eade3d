use Rattle.std.proofs.Common.{◌≡◌, drop}
use Rattle.transform.specs.Drafts.{drafted_all, new_draft}
use Rattle.transform.proofs.scripts.schedule_of.Given as goal

abbrev pub invariant-loop-command : goal.invariant-loop-command
invariant-loop-command g l = drafted_all g.row.D (new_draft g.row.D) l.script ≡ drafted_all g.row.D l.draft (drop l.command-index l.script)
