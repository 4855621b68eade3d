use Rattle.std.proofs.Common.{◌≡◌, sym, subst, ap, ◌∙◌, ℕ, length, List, arith, rules}
use Rattle.std.specs.List.{All}
use Rattle.nest_grammar.specs.declared.file.File.{File}
use Rattle.nest_grammar.specs.declared.file.NestUnit.{NestUnit}
use Rattle.listing.specs.Listings.{IsListing}
use Rattle.listing.specs.Parts.{IsUnitOf}
use Rattle.listing.proofs.FileLaws.{units-of_text}
use Rattle.listing.proofs.StandingLaws.{listing-stands}
use Rattle.listing.proofs.files.listing.Goals as goal

pub list-requires-clause-units : goal.list-requires-clause-units
list-requires-clause-units c =
    let are = units-of_text c.args.file.now c.file-file.ensures.of_text in
    let scalars : length c.args.file.now.scalars ≡ c.len.result = ap (λ (f : File). length f.scalars) (sym c.file-file.ensures.same) ∙ sym c.len.ensures in
    let units : c.args.file.now.units ≡ c.as_slice.result.now = ap (λ (f : File). f.units) (sym c.file-file.ensures.same) ∙ sym c.as_slice.ensures in
    subst (λ (us : List NestUnit). All (IsUnitOf c.len.result) us) units (subst (λ (n : ℕ). All (IsUnitOf n) c.args.file.now.units) scalars are.each)

pub list-requires-clause-number : goal.list-requires-clause-number
list-requires-clause-number c =
    let are = units-of_text c.args.file.now c.file-file.ensures.of_text in
    let units : length c.args.file.now.units ≡ length c.as_slice.result.now = ap (λ (f : File). length f.units) (sym c.file-file.ensures.same) ∙ ap (λ (us : List NestUnit). length us) (sym c.as_slice.ensures) in
    let few = are.count in
    omega (arith, units, few)

pub returns-clause-standing : goal.returns-clause-standing
returns-clause-standing c =
    let is : IsListing c.args.options c.args.file.now c.list.new.lines.items = search rules in
    listing-stands c.args.options c.args.file.now c.list.new.lines.items is
