use Rattle.std.proofs.Common.{FitsSigned, [], ◌∷◌, ◌++◌, codes, map, rules, to_z-of_z, w64}
use Rattle.std.specs.Fmt.{signed_decimal}
use Rattle.std.proofs.lemmas.Result.{on_ok_weaker}
use Rattle.nest_text.specs.Files.{scalar_names}
use Rattle.report.specs.Words.{block_word, datum_phrase}
use Rattle.report.specs.Lines.{listing_phrase, tube_words}
use Rattle.report.proofs.PhraseLaws.{form-phrase}
use Rattle.report.proofs.written.push_listed_phrase.Goals as goal

pub returns-in_ok-push_datum-in-Form : goal.returns-in_ok-push_datum-in-Form
unfolding listing_phrase
returns-in_ok-push_datum-in-Form c =
    let words = map signed_decimal (c.in-Form.coefficients.items ++ c.in-Form.constant ∷ []) ++ tube_words c.in-Form.low c.in-Form.high in
    let constant : FitsSigned w64 c.in-Form.constant = search rules in
    let low : FitsSigned w64 c.in-Form.low = search rules in
    let high : FitsSigned w64 c.in-Form.high = search rules in
    let numbers = simp to_z-of_z at (rw c.as_slice.ensures.value at c.push_form.ensures) in
    rw c.in-Form.is
    (on_ok_weaker c.push_form.result (λ so. form-phrase (codes "form") (block_word c.in-Form.block) (datum_phrase (scalar_names c.args.file.now) c.in-Form.what) words _ _ _ _ _ _ c.in_ok-push_str-in-Form.ensures.bytes c.in_ok-push_block-in-Form.ensures c.in_ok-push_str-in-Form-2.ensures.bytes c.in_ok-push_datum-in-Form.ensures so) numbers)
