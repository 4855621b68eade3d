use Rattle.std.proofs.Common.{◌≡◌, sym, rules, tests, ◌∙◌}
use Rattle.std.specs.Char.{is_ascii_digit}
use Rattle.std.specs.List.{list_all}
use Rattle.std.proofs.lemmas.Iterator.Adapters.{YieldsList-from_bytes}
use Rattle.std.proofs.lemmas.Iterator.Search.{all_from_yields_List}
use Rattle.command_line.proofs.DigitLaws.{AllDigits-from-list_all, list_all-from-AllDigits}
use Rattle.command_line.proofs.number.is_all_digits.Goals as goal

pub returns : goal.returns
returns c =
    let computed : c.all.result ≡ list_all is_ascii_digit c.args.text.now =
    all_from_yields_List is_ascii_digit _ _ c.all.result c.all.ensures.ran (YieldsList-from_bytes c.args.text.now c.bytes.ensures.rest) (λ x b q k. search (rules, tests)) in
    (λ yes. AllDigits-from-list_all c.args.text.now (sym computed ∙ yes), λ digits. computed ∙ list_all-from-AllDigits c.args.text.now digits)
