use Rattle.std.proofs.Common.{◌≡◌, sym, subst, ◌∙◌, Some, FitsSigned, w64, rules}
use Rattle.std.proofs.lemmas.Int.{to_z-of_z}
use Rattle.domain.specs.declared.prediction.What.{What}
use Rattle.domain.specs.declared.prediction.What.TheVariants.{Address}
use Rattle.domain.specs.Expected.{form_of}
use Rattle.domain.specs.Tables.{block_at}
use Rattle.profile.specs.Data.{tube_in}
use Rattle.listing.proofs.FormLaws.{address-has-tube, address-tube, form-line, no-form, tube_with}
use Rattle.listing.proofs.forms.tube_in.Goals as goal

pub returns-in_err-line : goal.returns-in_err-line
returns-in_err-line g c = c.from_residual.ensures ∙ no-form c.args.pred.now c.args.rank c.args.what (sym c.form.ensures ∙ c.in_err-line.was)

pub returns-in_err-low-in-Address : goal.returns-in_err-low-in-Address
returns-in_err-low-in-Address g c =
    let t = c.args.pred.now in
    let form : form_of t c.args.rank (Address c.in-Address.access) ≡ Some c.in_ok-line.line = subst (λ (w : What). form_of t c.args.rank w ≡ Some c.in_ok-line.line) c.in-Address.is (sym c.form.ensures ∙ c.in_ok-line.was) in
    absurd (address-has-tube t c.args.rank c.in-Address.access c.in_ok-line.line form (sym c.tube.ensures ∙ c.in_err-low-in-Address.was))

pub returns-in_ok-low-in-Address : goal.returns-in_ok-low-in-Address
returns-in_ok-low-in-Address g c =
    let t = c.args.pred.now in
    let low : FitsSigned w64 c.in_ok-low-in-Address.low = search rules in
    let high : FitsSigned w64 c.in_ok-low-in-Address.high = search rules in
    let form : form_of t c.args.rank (Address c.in-Address.access) ≡ Some c.in_ok-line.line = subst (λ (w : What). form_of t c.args.rank w ≡ Some c.in_ok-line.line) c.in-Address.is (sym c.form.ensures ∙ c.in_ok-line.was) in
    simp to_z-of_z (subst (λ (w : What). Some (tube_with c.in_ok-line.line c.in_ok-low-in-Address.low c.in_ok-low-in-Address.high) ≡ tube_in t (block_at t c.args.rank) w) (sym c.in-Address.is)
    (address-tube t c.args.rank c.in-Address.access c.in_ok-line.line c.in_ok-low-in-Address.low c.in_ok-low-in-Address.high form (sym c.tube.ensures ∙ c.in_ok-low-in-Address.was)))

pub returns-in_default : goal.returns-in_default
returns-in_default g c = form-line c.args.pred.now c.args.rank c.args.what c.in_ok-line.line c.in_default.not-Address (sym c.form.ensures ∙ c.in_ok-line.was)
