use Rattle.std.proofs.Common.{rules, arith, append_assoc, append-nil, length-append}
use Rattle.nest_lang.specs.declared.tree.Stmt.{the_lemmas}
use Rattle.nest_lang.proofs.AccessLaws.{block_accesses-at, block_accesses-end, statement_levels}
use Rattle.nest_lang.proofs.accesses.+push.Goals as goal

pub push_block-push_statement-requires : goal.push_block-push_statement-requires
push_block-push_statement-requires t c =
    let at = block_accesses-at c.args.block.now c.loop-statement.statement-index c.statement-item.result c.loop-statement-test.true c.statement-item.is in
    (search (rules, the_lemmas), grind (arith, at, length-append))

pub push_block-loop-statement-preserved : goal.push_block-loop-statement-preserved
push_block-loop-statement-preserved t c =
    let at = block_accesses-at c.args.block.now c.loop-statement.statement-index c.statement-item.result c.loop-statement-test.true c.statement-item.is in
    record {
      items = grind (arith, at, append_assoc);
      len = grind (arith, at, length-append);
    }

pub push_block-returns-clause-items : goal.push_block-returns-clause-items
push_block-returns-clause-items t c =
    let end = block_accesses-end c.args.block.now c.loop-statement.statement-index c.loop-statement-test.false in
    grind (arith, end, append-nil)

pub push_block-returns-clause-len : goal.push_block-returns-clause-len
push_block-returns-clause-len t c =
    let end = block_accesses-end c.args.block.now c.loop-statement.statement-index c.loop-statement-test.false in
    grind (arith, end)

pub push_statement-push_block-requires : goal.push_statement-push_block-requires
push_statement-push_block-requires t c = (search (rules, the_lemmas), grind (arith, statement_levels))

pub push_statement-push_block-requires-in-If : goal.push_statement-push_block-requires-in-If
push_statement-push_block-requires-in-If t c = (search (rules, the_lemmas), grind (arith, statement_levels))
