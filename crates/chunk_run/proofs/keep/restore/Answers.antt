use Rattle.std.proofs.Common.{◌∙◌, sym, subst, arith}
use Rattle.chunk_run.specs.Backups.{HasOneValueEach}
use Rattle.chunk_run.proofs.StoringBackLaws.{restoring-next, restored, ended, restored-view, restored-start}
use Rattle.chunk_run.proofs.keep.restore.Goals as goal

pub loop-word-preserved : goal.loop-word-preserved
loop-word-preserved c =
    let same = sym c.loop-word.invariant.1 in (
      c.put_back.ensures.table ∙ c.loop-word.invariant.0,
      c.loop-word.invariant.1,
      restoring-next c.args.backup.now _ c.loop-word.word-index c.args.main.now.view c.loop-word.main.view c.put_back.new.main.view _ same (subst HasOneValueEach (c.backup.view_is ∙ same) c.backup.invariant) c.loop-word-test.true c.requires.within c.loop-word.invariant.2
          (record { memory = c.put_back.ensures.word; rest = c.put_back.ensures.rest }),
    )

pub returns-clause-restored : goal.returns-clause-restored
returns-clause-restored c =
    let all = ended c.args.backup.now _ c.loop-word.word-index c.args.main.now.view c.loop-word.main.view (sym c.loop-word.invariant.1) (omega (arith, c.loop-word-test.false, c.loop-word.auto.word-index-end)) c.loop-word.invariant.2 in
    restored c.args.backup.now c.args.main.now.view c.loop-word.main.view all

pub returns-clause-view : goal.returns-clause-view
returns-clause-view c =
    let all = ended c.args.backup.now _ c.loop-word.word-index c.args.main.now.view c.loop-word.main.view (sym c.loop-word.invariant.1) (omega (arith, c.loop-word-test.false, c.loop-word.auto.word-index-end)) c.loop-word.invariant.2 in
    restored-view c.args.backup.now c.args.main.now.view c.loop-word.main.view all

pub returns-clause-start : goal.returns-clause-start
returns-clause-start c =
    let all = ended c.args.backup.now _ c.loop-word.word-index c.args.main.now.view c.loop-word.main.view (sym c.loop-word.invariant.1) (omega (arith, c.loop-word-test.false, c.loop-word.auto.word-index-end)) c.loop-word.invariant.2 in
    restored-start c.args.backup.now c.args.main.now.view c.loop-word.main.view all
