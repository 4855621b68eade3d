use Rattle.std.proofs.Common.{sym, ap, ◌∙◌, subst, List, ℤ, FitsSigned, w64, rules}
use Rattle.std.proofs.lemmas.Int.{to_z-of_z}
use Rattle.domain.specs.Instances.{Instance}
use Rattle.skeletons.specs.Runs.{Run}
use Rattle.tiles.specs.Strips.{AreSmall, IsSmallRun, form_strip, run_strip}
use Rattle.tiles.proofs.strip.Strip.of_run.Goals as goal

pub about-requires : goal.about-requires
about-requires g c =
    let offset : FitsSigned w64 c.args.offset = search rules in
    let small = subst IsSmallRun (sym c.run.view_is) c.requires.small in
    let here = subst (λ (at : List ℤ). AreSmall at c.run.inside.step c.run.inside.count) (sym (ap (λ (x : Instance). x.at) c.first.view_is)) small in
    (search rules, (search rules, (c.requires.few, (here, simp to_z-of_z c.requires.near))))

pub returns-clause-is : goal.returns-clause-is
returns-clause-is g c =
    let offset : FitsSigned w64 c.args.offset = search rules in
    (simp to_z-of_z at c.about.ensures.is)
    ∙ ap (λ (at : List ℤ). form_strip c.args.form.now at c.run.inside.step c.run.inside.count c.args.offset) (ap (λ (x : Instance). x.at) c.first.view_is)
    ∙ ap (λ (r : Run). run_strip r c.args.form.now c.args.offset) c.run.view_is
