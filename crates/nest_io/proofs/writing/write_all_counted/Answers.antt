use Rattle.std.proofs.Common.{rules, arith}
use Rattle.std.proofs.lemmas.Result.{err_from_is_err_and}
use Rattle.nest_io.proofs.TransferLaws.{put-more, put-front}
use Rattle.nest_io.proofs.writing.write_all_counted.Goals as goal

pub returns-in_err-count-clause-front : goal.returns-in_err-count-clause-front
returns-in_err-count-clause-front g c =
    let had = c.loop-rest.invariant.put in
    let at = err_from_is_err_and c.from_residual.result c.from_residual.ensures.1 in
    rw at.1 (put-front _ _ _ _ had.0 _ _ _ had.1 had.2 c.in_err-count.ensures.nothing (search rules) (let steps = had.3 in omega (arith, c.write_piece.ensures.step)))

pub loop-rest-preserved : goal.loop-rest-preserved
loop-rest-preserved g c =
    let had = c.loop-rest.invariant.put in
    record {
      put = (let more = put-more _ _ _ _ had.0 c.loop-rest.rest.now c.in_ok-count.count _ _ had.1 had.2 c.in_ok-count.ensures.put (search rules) (search rules) had.3 in (more.0, more.1, more.2, (let steps = more.3 in omega (arith, c.write_piece.ensures.step))));
      never_falls = search rules;
      onward = search rules;
    }
