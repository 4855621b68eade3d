use Rattle.std.proofs.Common.{◌≡◌, take, length}
use Rattle.transform.specs.Scripts.{marked}
use Rattle.transform.proofs.draft.with_marks.Given as goal

abbrev pub invariant-loop-row : goal.invariant-loop-row
invariant-loop-row g l = record { long : length l.marks ≡ g.row.D; done : l.marks ≡ marked l.mark (take l.row-index l.rows) l.fn.marks }
