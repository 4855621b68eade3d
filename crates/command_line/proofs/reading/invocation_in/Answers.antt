use Rattle.command_line.proofs.FoundWordLaws.{nothing}
use Rattle.command_line.proofs.reading.invocation_in.Goals as goal

pub returns-in_err-mode_in : goal.returns-in_err-mode_in
returns-in_err-mode_in c = nothing _ _ c.from_residual.ensures (λ invocation is. c.in_err-mode_in.ensures invocation.mode is.mode)

pub returns-in_err-options_in : goal.returns-in_err-options_in
returns-in_err-options_in c = nothing _ _ c.from_residual-in_err-options_in.ensures (λ invocation is. c.in_err-options_in.ensures invocation.options is.options)
