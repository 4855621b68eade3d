use Rattle.std.proofs.Common.{◌≡◌, subst, sym, ap, ◌∙◌, ◌<◌, ◌≤◌, ℕ, pos, ◌+ℤ◌, ◌≤ℤ◌, unsigned_abs, ◌^◌, to_z, of_z, Option, ℤ, FitsSigned, w64, rules}
use Rattle.std.specs.Int.{w128}
use Rattle.std.specs.Prelude.{◌↔◌}
use Rattle.std.proofs.Math.Facts.{sfits_widen}
use Rattle.std.proofs.lemmas.Int.{to_z-of_z}
use Rattle.std.proofs.lemmas.Result.{on_ok_weaker}
use Rattle.affine.specs.Forms.{Affine, value_at}
use Rattle.domain.specs.Tables.{Access}
use Rattle.domain.specs.Footprints.{LiesAbout, Expects}
use Rattle.domain.proofs.TouchedLaws.{gains-same, between}
use Rattle.domain.proofs.table.AccessForm.list.Goals as goal

after-fits : (z h s : ℤ) → unsigned_abs z < 2 ^ 77 → FitsSigned w64 h → s ≡ z +ℤ h → FitsSigned w128 (s +ℤ pos 1)
after-fits z h s small high e = let f : FitsSigned w128 h = sfits_widen tt high in search rules

pub returns : goal.returns
returns g c =
    let v = c.self.view_is in
    let i = c.in-Some.is in
    let value : FitsSigned w128 c.value-line.result = search rules in
    let low : FitsSigned w64 c.self.inside.low = search rules in
    let high : FitsSigned w64 c.self.inside.high = search rules in
    let first : c.plus.result ≡ c.value-line.result +ℤ c.self.inside.low = simp to_z-of_z at c.plus.ensures in
    let end : c.plus-2.result ≡ c.value-line.result +ℤ c.self.inside.high = simp to_z-of_z at c.plus-2.ensures in
    let sum : FitsSigned w128 (c.plus-2.result +ℤ pos 1) = after-fits c.value-line.result c.self.inside.high c.plus-2.result c.value-line.ensures.small high end in
    let from : (a : ℕ) → a < c.args.words → (c.bounded-first.result ≤ a) ↔ ((c.value-line.result +ℤ c.self.inside.low) ≤ℤ pos a) =
    subst (λ (z : ℤ). (a : ℕ) → a < c.args.words → (c.bounded-first.result ≤ a) ↔ (z ≤ℤ pos a)) (to_z-of_z w128 c.plus.result (search rules) ∙ first) c.bounded-first.ensures.from in
    let to : (a : ℕ) → a < c.args.words → (c.bounded-end.result ≤ a) ↔ (((c.value-line.result +ℤ c.self.inside.high) +ℤ pos 1) ≤ℤ pos a) =
    subst (λ (z : ℤ). (a : ℕ) → a < c.args.words → (c.bounded-end.result ≤ a) ↔ (z ≤ℤ pos a))
    (ap (λ (z : ℤ). to_z w128 (of_z w128 (z +ℤ pos 1))) (to_z-of_z w128 c.plus-2.result (search rules)) ∙ to_z-of_z w128 (c.plus-2.result +ℤ pos 1) sum ∙ ap (λ (z : ℤ). z +ℤ pos 1) end) c.bounded-end.ensures.from in
    let line : value_at c.in-Some.form c.args.at.now ≡ c.value-line.result = sym c.value-line.ensures.value in
    let same : (a : ℕ) → ((c.bounded-first.result ≤ a) × (a < c.bounded-end.result)) ↔ (Expects c.args.self.now c.args.at.now (pos a) × (a < c.args.words)) = λ a.
    subst (λ (x : Access). ((c.bounded-first.result ≤ a) × (a < c.bounded-end.result)) ↔ (Expects x c.args.at.now (pos a) × (a < c.args.words))) v
    (subst (λ (f : Option Affine). ((c.bounded-first.result ≤ a) × (a < c.bounded-end.result)) ↔ (LiesAbout f c.self.inside.low c.self.inside.high c.args.at.now (pos a) × (a < c.args.words))) (sym i)
    (subst (λ (z : ℤ). ((c.bounded-first.result ≤ a) × (a < c.bounded-end.result)) ↔ ((((z +ℤ c.self.inside.low) ≤ℤ pos a) × (pos a ≤ℤ (z +ℤ c.self.inside.high))) × (a < c.args.words))) (sym line)
    (between c.value-line.result c.self.inside.low c.self.inside.high c.bounded-first.result c.bounded-end.result c.args.words c.bounded-end.ensures.most from to a))) in
    on_ok_weaker c.push_range.result (gains-same _ _ _ _ same) c.push_range.ensures
