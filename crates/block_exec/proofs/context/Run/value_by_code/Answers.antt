use Rattle.std.proofs.Common.{◌≡◌, ◌∙◌, ap, sym, Err, Ok, to_z, of_z, w64, FitsSigned, rules}
use Rattle.std.proofs.lemmas.Int.{to_z-of_z}
use Rattle.nest_lang.specs.Lookups.{look_load}
use Rattle.block_exec.specs.Halts.{answer_of}
use Rattle.block_exec.specs.Sites.{frame_at}
use Rattle.block_exec.proofs.CodedRunLaws.{value-told, halt-told, seen-told}
use Rattle.block_exec.proofs.context.Run.value_by_code.Goals as goal

pub returns-in_err-instructions-clause-value : goal.returns-in_err-instructions-clause-value
returns-in_err-instructions-clause-value g c =
    let at = c.args.self.now in
    let hold = rw c.as_slice.ensures at c.fill.ensures.holds in
    let value = rw c.as_slice-2.ensures at c.in_err-instructions.ensures.value in
    let is : c.from_residual.result ≡ Err c.in_err-instructions.field-0.0 = search rules in
    rw is (halt-told (frame_at c.args.site.now (g.P.Port.expects at.port.now)) at.scalars.now at.locals (look_load (g.P.Port.expects at.port.now) (g.P.Port.memory at.port.now)) c.args.expr.now c.args.code.now c.fill.new.self.values c.requires.code c.fill.ensures.room hold _ value)

pub returns-in_err-instructions-clause-watch : goal.returns-in_err-instructions-clause-watch
returns-in_err-instructions-clause-watch g c =
    let at = c.args.self.now in
    let hold = rw c.as_slice.ensures at c.fill.ensures.holds in
    let chain = rw c.as_slice-2.ensures at c.in_err-instructions.ensures.watch in
    rw (sym (seen-told (frame_at c.args.site.now (g.P.Port.expects at.port.now)) at.scalars.now at.locals (look_load (g.P.Port.expects at.port.now) (g.P.Port.memory at.port.now)) c.args.expr.now c.args.code.now c.fill.new.self.values c.requires.code c.fill.ensures.room hold)) chain

pub returns-clause-value : goal.returns-clause-value
returns-clause-value g c =
    let at = c.args.self.now in
    let hold = rw c.as_slice.ensures at c.fill.ensures.holds in
    let value = rw c.as_slice-2.ensures at c.in_ok-instructions.ensures.value in
    let fits : FitsSigned w64 c.get.result = search rules in
    let same : to_z w64 (of_z w64 c.get.result) ≡ c.get.result = to_z-of_z w64 c.get.result fits in
    ap Ok (same ∙ c.get.ensures) ∙ value-told (frame_at c.args.site.now (g.P.Port.expects at.port.now)) at.scalars.now at.locals (look_load (g.P.Port.expects at.port.now) (g.P.Port.memory at.port.now)) c.args.expr.now c.args.code.now c.fill.new.self.values c.requires.code c.fill.ensures.room hold _ value

pub returns-clause-watch : goal.returns-clause-watch
returns-clause-watch g c =
    let at = c.args.self.now in
    let hold = rw c.as_slice.ensures at c.fill.ensures.holds in
    let chain = rw c.as_slice-2.ensures at c.in_ok-instructions.ensures.watch in
    rw (sym (seen-told (frame_at c.args.site.now (g.P.Port.expects at.port.now)) at.scalars.now at.locals (look_load (g.P.Port.expects at.port.now) (g.P.Port.memory at.port.now)) c.args.expr.now c.args.code.now c.fill.new.self.values c.requires.code c.fill.ensures.room hold)) chain
