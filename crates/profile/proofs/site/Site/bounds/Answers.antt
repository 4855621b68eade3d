use Rattle.std.proofs.Common.{◌≡◌, ◌≤◌, rules, arith}
use Rattle.nest_lang.specs.declared.tree.Part.TheVariants.{Head}
use Rattle.profile.specs.Data.{bounds_of}
use Rattle.profile.specs.Parts.{IsEndIn}
use Rattle.profile.proofs.EndLaws.{handed-on}
use Rattle.profile.proofs.FitPartLaws.{bounds-end}
use Rattle.profile.proofs.site.Site.bounds.Goals as goal

pub returns-in_err-trip : goal.returns-in_err-trip
returns-in_err-trip g c =
    let s = c.args.self in
    let o = c.args.samples.now in
    let part : s.block.part ≡ Head = search rules in
    let inner : 2 ≤ s.block.level = omega arith in
    handed-on c.from_residual-in_err-trip.result _ (IsEndIn g.row.D o s.rank s.block (bounds_of s.block.part s.block.level)) c.in_err-trip.field-0.0 c.from_residual-in_err-trip.ensures
    (bounds-end g.row.D o s.block s.rank c.in_ok-lower.lower c.in_err-trip.field-0.0 part inner c.in_ok-lower.ensures c.in_err-trip.ensures)
