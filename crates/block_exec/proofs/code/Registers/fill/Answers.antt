use Rattle.std.proofs.Common.{◌≡◌, ◌∙◌, length, FitsSigned, w64, to_z, of_z, rules}
use Rattle.std.proofs.lemmas.Int.{to_z-of_z}
use Rattle.block_exec.proofs.InputLaws.{first-next, first-all}
use Rattle.block_exec.proofs.code.Registers.fill.Goals as goal

pub loop-at-preserved : goal.loop-at-preserved
loop-at-preserved c =
    let fits : FitsSigned w64 c.input_value.result = search rules in
    let same : to_z w64 (of_z w64 c.input_value.result) ≡ c.input_value.result = to_z-of_z w64 c.input_value.result fits in
    record {
      first = first-next _ _ _ _ _ _ c.loop-at-test.true (search rules) c.loop-at.invariant.room (same ∙ c.input_value.ensures) c.loop-at.invariant.first;
      room = search rules;
    }

pub returns-clause-holds : goal.returns-clause-holds
returns-clause-holds c = first-all _ _ _ _ c.loop-at-test.false c.loop-at.invariant.first
