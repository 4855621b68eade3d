use Rattle.std.proofs.Common.{◌≡◌, ◌+◌}
use Rattle.transform.specs.Drafts.{drafted_all}
use Rattle.transform.specs.Standards.{tiles}
use Rattle.transform.proofs.standards.tiled.Given as goal

abbrev pub invariant-loop-row : goal.invariant-loop-row
invariant-loop-row g l = drafted_all g.row.D l.fn.draft (tiles l.first g.row.D l.size) ≡ drafted_all g.row.D l.draft (tiles (l.row + 1) g.row.D l.size)
