use Rattle.std.proofs.Common.{◌≡◌, ap, ◌∙◌, ℤ, FitsSigned, to_z, of_z, rules}
use Rattle.std.specs.Int.{w64, w128}
use Rattle.std.proofs.lemmas.Int.{to_z-of_z}
use Rattle.line_fit.proofs.IndexLaws.{sample_at-read}
use Rattle.line_fit.proofs.FitLaws.{line-found, line-small, constant-large}
use Rattle.line_fit.proofs.fit.line_through.Goals as goal

pub returns-in-Ok-try_from : goal.returns-in-Ok-try_from
returns-in-Ok-try_from g c =
    let wide : FitsSigned w128 c.residual-constant.result = search rules in
    let value : FitsSigned w128 c.first.inside.value = search rules in
    let read = to_z-of_z w128 c.residual-constant.result wide in
    let told = rw read at c.in-Ok-try_from.ensures in
    let fits = told.0 in
    let kept : to_z w64 (of_z w64 c.in-Ok-try_from.cst) ≡ c.residual-constant.result = ap (λ (z : ℤ). to_z w64 (of_z w64 z)) told.1 ∙ to_z-of_z w64 c.residual-constant.result fits in
    let first = c.first.view_is ∙ sample_at-read c.args.samples.now 0 c.index-samples-0.result c.requires.some c.index-samples-0.is in
    let is = rw (to_z-of_z w128 c.first.inside.value value) at c.residual-constant.ensures.value in
    rw kept (
      line-found g.row.D c.args.samples.now c.in-Ok.coef c.first.inside.at c.first.inside.value c.residual-constant.result c.in-Ok.ensures.0 (ap (λ s. s.at) first) (ap (λ s. s.value) first) is,
      line-small c.in-Ok.coef c.residual-constant.result c.in-Ok.ensures.1 fits,
    )

pub returns : goal.returns
returns g c =
    let wide : FitsSigned w128 c.residual-constant.result = search rules in
    let value : FitsSigned w128 c.first.inside.value = search rules in
    let read = to_z-of_z w128 c.residual-constant.result wide in
    let large = rw read at c.in-Err-try_from.ensures in
    let first = c.first.view_is ∙ sample_at-read c.args.samples.now 0 c.index-samples-0.result c.requires.some c.index-samples-0.is in
    let is = rw (to_z-of_z w128 c.first.inside.value value) at c.residual-constant.ensures.value in
    rw read (constant-large g.row.D c.args.samples.now c.in-Ok.coef c.residual-constant.result
    (line-found g.row.D c.args.samples.now c.in-Ok.coef c.first.inside.at c.first.inside.value c.residual-constant.result c.in-Ok.ensures.0 (ap (λ s. s.at) first) (ap (λ s. s.value) first) is)
    c.in-Ok.ensures.1 large)
