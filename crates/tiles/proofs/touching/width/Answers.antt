use Rattle.std.proofs.Common.{◌∙◌, sym, ap, ◌-ℤ◌, FitsSigned, w64, arith, rules}
use Rattle.std.proofs.lemmas.Int.{ints, fits_signed_from_abs, to_z-of_z}
use Rattle.domain.specs.Tables.{Access}
use Rattle.tiles.specs.Strips.{offset_count}
use Rattle.tiles.proofs.NearLaws.{tube-count}
use Rattle.tiles.proofs.touching.width.Goals as goal

pub returns : goal.returns
returns g c =
    let low : FitsSigned w64 c.access.inside.low = search rules in
    let high : FitsSigned w64 c.access.inside.high = search rules in
    let below = c.access.invariant.below in let above = c.access.invariant.above in let width = c.access.invariant.width in
    let whole : FitsSigned w64 (c.access.inside.high -ℤ c.access.inside.low) = fits_signed_from_abs w64 (c.access.inside.high -ℤ c.access.inside.low) (omega (arith, ints, below, above, width)) in
    let a : Access = record { stores = c.access.inside.stores; line = c.access.inside.line; low = c.access.inside.low; high = c.access.inside.high } in
    simp to_z-of_z (sym (tube-count a c.access.invariant) ∙ ap offset_count c.access.view_is)
