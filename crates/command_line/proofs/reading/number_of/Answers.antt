use Rattle.std.proofs.Common.{◌≡◌, ◌∙◌, ap, pos, Some, None, option_map}
use Rattle.clap.specs.Words.{found_of, rows_of, first_of}
use Rattle.command_line.proofs.FoundWordLaws.{nothing, finds-the-same, first_of-given, no-number, number-there}
use Rattle.command_line.proofs.reading.number_of.Goals as goal

pub returns-in_err-get_str : goal.returns-in_err-get_str
returns-in_err-get_str c =
    let found = found_of c.args.matches.now in
    let none : first_of c.args.option.now (rows_of found) ≡ None = first_of-given found c.args.option.now c.get_str.result c.get_str.ensures ∙ ap (option_map (λ s. s.now)) (c.in_err-get_str.was) in
    nothing _ _ c.from_residual.ensures (λ n h. no-number (rows_of found) c.args.option.now c.args.least c.args.most none (pos n) h)

pub returns : goal.returns
returns c =
    let found = found_of c.args.matches.now in
    let text = c.in_ok-get_str.field-0.now in
    let given : first_of c.args.option.now (rows_of found) ≡ Some text = first_of-given found c.args.option.now c.get_str.result c.get_str.ensures ∙ ap (option_map (λ s. s.now)) (c.in_ok-get_str.was) in
    finds-the-same _ _ _ (λ n is. record { text = text; value = given; is = is })
    (λ n h. number-there (rows_of found) c.args.option.now text c.args.least c.args.most given (pos n) h) c.number_in.ensures
