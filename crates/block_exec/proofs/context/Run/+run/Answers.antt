use Rattle.std.proofs.Common.{◌≡◌, refl, Err, rules}
use Rattle.nest_lang.proofs.StatementLaws.{run-next, run-out}
use Rattle.block_exec.proofs.StatementLaws.{shown-next, shown-out}
use Rattle.block_exec.proofs.RunLaws.{kept-trans, finish-err}
use Rattle.block_exec.proofs.context.Run.+run.Goals as goal

pub statements-loop-statement-preserved : goal.statements-loop-statement-preserved
statements-loop-statement-preserved g t c =
    let before = c.loop-statement.invariant in
    let ran = (rw before.kept.expects_same at c.in_ok-statement.ensures.ran) in
    record {
      kept = kept-trans _ _ _ _ _ before.kept c.in_ok-statement.ensures.kept;
      rest = run-next _ _ _ _ _ _ _ _ _ _ _ _ ran.cut refl c.loop-statement-test.true c.statement-item.is before.rest;
      shown = shown-next g.W.Watch.may _ _ _ _ _ _ _ _ _ _ _ _ _ _ _ ran.cut refl c.loop-statement-test.true c.statement-item.is ran.shown before.shown;
    }

pub statements-returns-in_err-statement-clause-ran : goal.statements-returns-in_err-statement-clause-ran
statements-returns-in_err-statement-clause-ran g t c =
    let before = c.loop-statement.invariant in
    let ran = (rw before.kept.expects_same at c.in_err-statement.ensures.ran) in
    let is : c.from_residual.result ≡ Err c.in_err-statement.field-0.0 = search rules in
    let other = finish-err c.in_err-statement.field-0.0 c.statement.new.self.halt in
    rw is record {
      cut = run-out _ _ _ _ _ _ _ _ _ _ _ _ ran.cut other c.loop-statement-test.true c.statement-item.is before.rest;
      shown = shown-out g.W.Watch.may _ _ _ _ _ _ _ _ _ _ _ _ _ _ _ ran.cut other c.loop-statement-test.true c.statement-item.is ran.shown before.shown;
    }
