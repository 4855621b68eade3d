use Rattle.std.proofs.Common.{◌≡◌, rules}
use Rattle.nest_lang.specs.Accesses.{accesses_of}
use Rattle.profile.specs.Data.{data_of}
use Rattle.profile.specs.Parts.{IsEndIn}
use Rattle.profile.proofs.EndLaws.{handed-on}
use Rattle.profile.proofs.FitPartLaws.{first-end, second-end, third-end}
use Rattle.profile.proofs.site.Site.block.Goals as goal

pub returns-in_err-scalars : goal.returns-in_err-scalars
returns-in_err-scalars g c =
    let s = c.args.self in
    let o = c.args.samples.now in
    handed-on c.from_residual.result _ (IsEndIn g.row.D o s.rank s.block (data_of c.args.scalars c.args.nest.now.loops s.block)) c.in_err-scalars.field-0.0 c.from_residual.ensures
    (first-end g.row.D o s.block c.args.scalars c.args.nest.now.loops s.rank c.in_err-scalars.field-0.0 c.in_err-scalars.ensures)

pub returns-in_err-accesses : goal.returns-in_err-accesses
returns-in_err-accesses g c =
    let s = c.args.self in
    let o = c.args.samples.now in
    let is : c.as_slice.result.now ≡ accesses_of c.args.nest.now.loops s.block = search rules in
    handed-on c.from_residual-in_err-accesses.result _ (IsEndIn g.row.D o s.rank s.block (data_of c.args.scalars c.args.nest.now.loops s.block)) c.in_err-accesses.field-0.0 c.from_residual-in_err-accesses.ensures
    (second-end g.row.D o s.block c.args.scalars c.args.nest.now.loops s.rank c.in_err-accesses.field-0.0 c.in_ok-scalars.scalars.items c.as_slice.result.now is c.in_ok-scalars.ensures c.in_err-accesses.ensures)

pub returns-in_err-bounds : goal.returns-in_err-bounds
returns-in_err-bounds g c =
    let s = c.args.self in
    let o = c.args.samples.now in
    let is : c.as_slice.result.now ≡ accesses_of c.args.nest.now.loops s.block = search rules in
    handed-on c.from_residual-in_err-bounds.result _ (IsEndIn g.row.D o s.rank s.block (data_of c.args.scalars c.args.nest.now.loops s.block)) c.in_err-bounds.field-0.0 c.from_residual-in_err-bounds.ensures
    (third-end g.row.D o s.block c.args.scalars c.args.nest.now.loops s.rank c.in_err-bounds.field-0.0 c.in_ok-scalars.scalars.items c.as_slice.result.now c.in_ok-accesses.accesses.items is c.in_ok-scalars.ensures c.in_ok-accesses.ensures c.in_err-bounds.ensures)
