use Rattle.std.proofs.Common.{ℕ, List, ◌++◌, sym, ap, ◌∙◌, append-nil}
use Rattle.canonical.specs.Labelled.{labels_of}
use Rattle.canonical.proofs.StatementEquationLaws.{text-next, otherwise-empty}
use Rattle.canonical.proofs.statement.+write.Goals as goal

pub write_statements-loop-statement-preserved : goal.write_statements-loop-statement-preserved
write_statements-loop-statement-preserved t c = text-next (labels_of c.args.labels.now) c.args.depth c.args.block.now c.loop-statement.statement-index c.statement-item.result _ _ _ c.loop-statement-test.true c.statement-item.is c.loop-statement.invariant c.in_ok-write_statement.ensures

pub write_otherwise-returns-then-is_empty : goal.write_otherwise-returns-then-is_empty
write_otherwise-returns-then-is_empty t c = sym (ap (λ (x : List ℕ). c.args.page.now ++ x) (otherwise-empty (labels_of c.args.labels.now) c.args.branch.now c.args.depth (sym c.if-is_empty.ensures)) ∙ append-nil c.args.page.now)
