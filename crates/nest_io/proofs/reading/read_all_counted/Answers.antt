use Rattle.std.proofs.Common.{rules}
use Rattle.std.proofs.lemmas.Result.{err_from_is_err_and}
use Rattle.nest_io.proofs.TransferLaws.{whole_text, take_more}
use Rattle.nest_io.proofs.reading.read_all_counted.Goals as goal

pub returns-then-count-eq0-clause-end : goal.returns-then-count-eq0-clause-end
returns-then-count-eq0-clause-end g c =
    λ _. whole_text _ _ _ _ c.read_piece.new.into _ c.loop-piece.invariant.taken c.in_ok-count.ensures.taken c.if-count-eq0.true (c.in_ok-count.ensures.end (search rules))

pub returns-in_err-extend_from_slice-clause-refused : goal.returns-in_err-extend_from_slice-clause-refused
returns-in_err-extend_from_slice-clause-refused g c =
    let at = err_from_is_err_and c.from_residual-in_err-extend_from_slice.result c.from_residual-in_err-extend_from_slice.ensures.1 in
    rw at.1 (take_more _ _ _ _ c.read_piece.new.into _ _ _ _ c.loop-piece.invariant.taken c.in_ok-count.ensures.taken c.in_ok-count.ensures.room (search rules) (search rules))
