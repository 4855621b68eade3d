use Rattle.std.proofs.Common.{subst, ℕ, ◌+◌, length, List, map, Option, get_or, arith}
use Rattle.std.specs.List.{range_with_len}
use Rattle.std.proofs.lemmas.Option.{slice_get-get_or}
use Rattle.line_fit.specs.Lines.{Tube}
use Rattle.domain.specs.declared.prediction.What.TheVariants.{Address}
use Rattle.domain.specs.Tables.{Access}
use Rattle.profile.specs.Data.{samples_at, tube_about}
use Rattle.profile.specs.Fits.{HasFitAt}
use Rattle.profile.specs.Parts.{IsEndIn}
use Rattle.profile.proofs.EndLaws.{handed-on, ranged-end}
use Rattle.profile.proofs.FitPartLaws.{fit-tube, forms-length, more-access}
use Rattle.nest_lang.specs.declared.tree.Access.{Access as NestAccess}
use Rattle.nest_lang.specs.declared.tree.AccessKind.TheVariants.{Load}
use Rattle.std.proofs.Common.{pos, false, None, rules}
use Rattle.profile.proofs.site.Site.accesses.Goals as goal

none : NestAccess
none = record { number = 0; kind = Load }

unseen : Access
unseen = record { stores = false; line = None; low = pos 0; high = pos 0 }

pub returns-in_err-fit : goal.returns-in_err-fit
returns-in_err-fit g c =
    let o = c.args.samples.now in
    let s = c.args.self in
    let n = c.loop-before.before in
    let forms : List Access = c.loop-before.forms.items in
    let each = c.loop-before.invariant.each in
    let within = c.loop-before-test.true in
    let size = forms-length g.row.D o s.block c.args.accesses.now forms n c.loop-before.invariant within in
    handed-on c.from_residual.result _ (IsEndIn g.row.D o s.rank s.block (map (λ (k : ℕ). Address k) (range_with_len 1 (length c.args.accesses.now)))) c.in_err-fit.field-0.0 c.from_residual.ensures
    (ranged-end g.row.D o s.rank s.block (λ (k : ℕ). Address k) 1 (length c.args.accesses.now) n (n + 1) c.in_err-fit.field-0.0 within (omega arith)
    (λ k l. let a = get_or forms k unseen in (
      tube_about a.line a.low a.high,
      subst (λ (j : ℕ). HasFitAt g.row.D o s.block (Address j) (tube_about a.line a.low a.high)) (omega arith) (each k a (slice_get-get_or forms k unseen (omega (arith, size, l)))).0,
    )) c.in_err-fit.ensures)

pub access_form-requires : goal.access_form-requires
access_form-requires g c =
    let few = c.requires.few in
    let tube = fit-tube g.row.D (samples_at g.row.D c.args.samples.now c.args.self.block (Address (c.loop-before.before + 1))) c.in_ok-fit.fit c.in_ok-fit.ensures in
    (search rules, (search rules, tube))

pub loop-before-preserved : goal.loop-before-preserved
unfolding none
loop-before-preserved g c =
    let fit : HasFitAt g.row.D c.args.samples.now c.args.self.block (Address (c.loop-before.before + 1)) (tube_about c.access_form.result.line c.access_form.result.low c.access_form.result.high) =
    subst (λ (t : Option Tube). HasFitAt g.row.D c.args.samples.now c.args.self.block (Address (c.loop-before.before + 1)) t) c.access_form.ensures.fit c.in_ok-fit.ensures in
    more-access g.row.D c.args.samples.now c.args.self.block c.args.accesses.now c.loop-before.before none c.loop-before.forms.items c.push.new.self.items c.access_form.result c.loop-before-test.true c.loop-before.invariant c.in_ok-push.ensures.items
    c.access_form.ensures.stores fit c.access_form.ensures.narrow
