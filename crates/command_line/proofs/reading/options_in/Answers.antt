use Rattle.command_line.proofs.FoundWordLaws.{nothing, no-number-below}
use Rattle.command_line.proofs.reading.options_in.Goals as goal

pub returns-in_err-number_of : goal.returns-in_err-number_of
returns-in_err-number_of c = nothing _ _ c.from_residual.ensures (λ options has. c.in_err-number_of.ensures options.workers has.workers)

pub returns-in_err-number_of-2 : goal.returns-in_err-number_of-2
returns-in_err-number_of-2 c =
    nothing _ _ c.from_residual-in_err-number_of-2.ensures (λ options has. no-number-below _ _ _ _ (c.in_err-number_of-2.ensures) options.chunk has.chunk)

pub returns-in_err-number_of-3 : goal.returns-in_err-number_of-3
returns-in_err-number_of-3 c =
    nothing _ _ c.from_residual-in_err-number_of-3.ensures (λ options has. no-number-below _ _ _ _ (c.in_err-number_of-3.ensures) options.sample has.sample)

pub returns-in_err-number_of-4 : goal.returns-in_err-number_of-4
returns-in_err-number_of-4 c = nothing _ _ c.from_residual-in_err-number_of-4.ensures (λ options has. c.in_err-number_of-4.ensures options.steps has.steps)
