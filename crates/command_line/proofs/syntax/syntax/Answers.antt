use Rattle.std.proofs.Common.{rules, ◌≡◌, ◌∙◌, ap, ap₂, true, false, Some}
use Rattle.std.proofs.lemmas.Result.{IfOk-weaker}
use Rattle.clap.specs.Lexer.{usize_max}
use Rattle.clap.specs.Simple.{app_of_fields, on_top}
use Rattle.clap.specs.Words.{App, Rule, rule_of, with_rule}
use Rattle.command_line.specs.Syntax.{args_rule, mode_rule}
use Rattle.command_line.proofs.FoundWordLaws.{some-that}
use Rattle.command_line.proofs.syntax.syntax.Goals as goal

abbrev nameless : App → App
nameless = on_top (λ shape. record shape { no_binary_name = true })

pub returns : goal.returns
returns c =
    let bare = ap app_of_fields c.no_binary_name.ensures ∙ ap nameless c.new.ensures.app in
    let mode_is : rule_of c.required.result ≡ mode_rule = search rules in
    let many : c.num_args.result.num_vals ≡ Some (record { start_inclusive = 0; end_inclusive = usize_max }) = some-that _ _ c.num_args.ensures.1 in
    let args_is : rule_of c.num_args.result ≡ args_rule = ap rule_of c.num_args.ensures.0 ∙ ap₂ (λ (r : Rule) o. record r { range = o }) c.new-3.ensures.rule many in
    let local : c.num_args.result.global ≡ false = search rules in
    let one = c.in_ok-arg.ensures.shape (search rules) ∙ ap₂ with_rule bare mode_is in
    let two = c.in_ok-arg-2.ensures.shape c.option.ensures.local ∙ ap₂ with_rule one c.option.ensures.rule in
    let three = c.in_ok-arg-3.ensures.shape c.option-2.ensures.local ∙ ap₂ with_rule two c.option-2.ensures.rule in
    let four = c.in_ok-arg-4.ensures.shape c.option-3.ensures.local ∙ ap₂ with_rule three c.option-3.ensures.rule in
    let five = c.in_ok-arg-5.ensures.shape c.option-4.ensures.local ∙ ap₂ with_rule four c.option-4.ensures.rule in
    IfOk-weaker c.arg-6.result _ _ (λ command added. added.shape local ∙ ap₂ with_rule five args_is) c.arg-6.ensures
