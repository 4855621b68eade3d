use Rattle.std.proofs.Common.{ap, subst, Option, Some, List, map, option_map}
use Rattle.clap.specs.Words.{Text}
use Rattle.command_line.specs.Modes.{HasArguments}
use Rattle.command_line.proofs.FoundWordLaws.{has-recipe, nothing}
use Rattle.command_line.proofs.invocation.Mode.of_words.Goals as goal

pub returns-in_err-of_words-in-gen-Some : goal.returns-in_err-of_words-in-gen-Some
returns-in_err-of_words-in-gen-Some c =
    let texts : List Text = map (λ text. text.now) c.in-gen-Some.texts.now in
    nothing _ _ c.from_residual.ensures (λ mode is.
    let found = has-recipe texts mode (subst (λ (a : Option (List Text)). HasArguments mode a) (ap (option_map (λ texts. map (λ text. text.now) texts.now)) c.in-gen-Some.is-1) is.has) in
    c.in_err-of_words-in-gen-Some.ensures found.0 found.2)
