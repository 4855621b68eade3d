use Rattle.std.proofs.Common.{◌≡◌, ◌∙◌, ap, sym, subst, Option, Some, None, List, option_map, codes, map}
use Rattle.clap.specs.Words.{Text, all_of, first_of, found_of, rows_of}
use Rattle.clap.proofs.WalkLemmas.{raw_values-rows}
use Rattle.command_line.specs.Invocations.{IsFoundMode}
use Rattle.command_line.specs.Modes.{IsModeOf}
use Rattle.command_line.proofs.FoundWordLaws.{nothing, finds-the-same, first_of-given, same_text}
use Rattle.command_line.proofs.reading.mode_in.Goals as goal

pub returns-in_err-get_str : goal.returns-in_err-get_str
returns-in_err-get_str c =
    let found = found_of c.args.matches.now in
    let none : first_of (codes "MODE") (rows_of found) ≡ None = first_of-given found (codes "MODE") c.get_str.result c.get_str.ensures ∙ ap (option_map (λ s. s.now)) (c.in_err-get_str.was) in
    nothing _ _ c.from_residual.ensures (λ mode is. let bad : None ≡ Some is.word = sym none ∙ is.value in cc)

pub returns : goal.returns
returns c =
    let found = found_of c.args.matches.now in
    let word = c.in_ok-get_str.field-0.now in
    let given : first_of (codes "MODE") (rows_of found) ≡ Some word = first_of-given found (codes "MODE") c.get_str.result c.get_str.ensures ∙ ap (option_map (λ s. s.now)) (c.in_ok-get_str.was) in
    let arguments : option_map (λ s. map (λ v. v.now) s.now) c.get_strs.result ≡ all_of (codes "ARGS") (rows_of found) = c.get_strs.ensures ∙ raw_values-rows found (codes "ARGS") in
    let texts : Option (List Text) = option_map (λ s. map (λ v. v.now) s.now) c.get_strs.result in
    finds-the-same c.of_words.result (IsModeOf word texts) (IsFoundMode (rows_of found))
    (λ mode is. record { word = word; value = given; is = subst (λ (a : Option (List Text)). IsModeOf word a mode) arguments is })
    (λ mode is. subst (λ (w : Text). IsModeOf w texts mode) (same_text is.word word (sym is.value ∙ given)) (subst (λ (a : Option (List Text)). IsModeOf is.word a mode) (sym arguments) is.is))
    c.of_words.ensures
