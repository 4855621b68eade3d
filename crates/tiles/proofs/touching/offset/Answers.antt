use Rattle.std.proofs.Common.{◌≡◌, sym, ◌<◌, ◌∙◌, ap, subst, ℤ, ◌+ℤ◌, pos, FitsSigned, w64, rules, unsigned_abs, ◌≤◌}
use Rattle.std.proofs.lemmas.Int.{to_z-of_z}
use Rattle.domain.specs.Tables.{Access}
use Rattle.tiles.specs.Strips.{offset_count}
use Rattle.tiles.proofs.NearLaws.{tube-offset}
use Rattle.tiles.proofs.touching.offset.Goals as goal

pub raised-requires-clause-low : goal.raised-requires-clause-low
raised-requires-clause-low g c =
    let low : FitsSigned w64 c.access.inside.low = search rules in
    let a : Access = record { stores = c.access.inside.stores; line = c.access.inside.line; low = c.access.inside.low; high = c.access.inside.high } in
    let below : c.args.place < offset_count a = subst (λ (x : Access). c.args.place < offset_count x) (sym c.access.view_is) c.requires in
    simp to_z-of_z (tube-offset a c.args.place c.access.invariant below).low-near

pub raised-requires-clause-place : goal.raised-requires-clause-place
raised-requires-clause-place g c =
    let a : Access = record { stores = c.access.inside.stores; line = c.access.inside.line; low = c.access.inside.low; high = c.access.inside.high } in
    let below : c.args.place < offset_count a = subst (λ (x : Access). c.args.place < offset_count x) (sym c.access.view_is) c.requires in
    (tube-offset a c.args.place c.access.invariant below).place-near

pub returns-clause-is : goal.returns-clause-is
returns-clause-is g c =
    let low : FitsSigned w64 c.access.inside.low = search rules in
    let result : FitsSigned w64 c.raised.result = search rules in
    simp to_z-of_z (c.raised.ensures ∙ simp to_z-of_z (ap (λ (x : Access). x.low +ℤ pos c.args.place) c.access.view_is))

pub returns-clause-near : goal.returns-clause-near
returns-clause-near g c =
    let low : FitsSigned w64 c.access.inside.low = search rules in
    let result : FitsSigned w64 c.raised.result = search rules in
    let a : Access = record { stores = c.access.inside.stores; line = c.access.inside.line; low = c.access.inside.low; high = c.access.inside.high } in
    let below : c.args.place < offset_count a = subst (λ (x : Access). c.args.place < offset_count x) (sym c.access.view_is) c.requires in
    let is : c.raised.result ≡ c.access.inside.low +ℤ pos c.args.place = simp to_z-of_z at c.raised.ensures in
    simp to_z-of_z (subst (λ (z : ℤ). unsigned_abs z ≤ 64) (sym is) (tube-offset a c.args.place c.access.invariant below).near)
