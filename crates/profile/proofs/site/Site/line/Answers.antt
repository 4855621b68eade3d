use Rattle.std.proofs.Common.{sym, subst, Option, Some}
use Rattle.line_fit.specs.Lines.{Tube}
use Rattle.profile.specs.Data.{samples_at, widest}
use Rattle.profile.specs.Fits.{HasFitAt}
use Rattle.profile.proofs.FitPartLaws.{narrow-fit}
use Rattle.profile.proofs.site.Site.line.Goals as goal

pub returns-in-Some : goal.returns-in-Some
returns-in-Some g c =
    let o = c.args.samples.now in
    let b = c.args.self.block in
    let h = subst (λ (f : Option Tube). HasFitAt g.row.D o b c.args.what f) c.in-Some.is c.in_ok-tube.ensures in
    let k = subst (λ (t : Tube). HasFitAt g.row.D o b c.args.what (Some t)) (sym c.tube.view_is) h in
    narrow-fit g.row.D (widest c.args.what) (samples_at g.row.D o b c.args.what) _ c.requires.narrow k
