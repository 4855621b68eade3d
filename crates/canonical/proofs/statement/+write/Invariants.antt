use Rattle.std.proofs.Common.{◌≡◌, ◌++◌, take}
use Rattle.canonical.specs.Pieces.{text_of}
use Rattle.canonical.specs.Labelled.{labels_of}
use Rattle.canonical.specs.Statements.{statement_lines}
use Rattle.canonical.proofs.statement.+write.Given as goal

abbrev pub invariant-write_statements-loop-statement : goal.invariant-write_statements-loop-statement
invariant-write_statements-loop-statement l = l.page ≡ l.fn.page ++ text_of (statement_lines (labels_of l.labels) (take l.statement-index l.block) l.depth)
