use Rattle.std.proofs.Common.{◌≡◌, ℤ, Option, Some, None, ◌≤ℤ◌, ◌<ℤ◌, FitsSigned, sym, ap, arith, rules}
use Rattle.std.specs.Int.{w128}
use Rattle.std.proofs.lemmas.Int.{to_z-of_z, ints}
use Rattle.std.specs.BTreeMap.{is_at}
use Rattle.std.specs.Map.{lookup}
use Rattle.fourier_motzkin.proofs.EntryLaws.{by_places, kept-stays, kept-inserted}
use Rattle.refutation.proofs.tidying.Tidying.place.Goals as goal
use Rattle.refutation.proofs.tidying.Tidying.place.Goals.{in-Some+else-least-cst, in_default}

below-found : {x : Option ℤ} (v w cst : ℤ) → cst <ℤ w → Some w ≡ x → x ≡ Some v → cst <ℤ v
below-found v w cst h e f = let is : w ≡ v = cc in rw (← is) h

none-found : {x : Option ℤ} {P : Type 0} (v : ℤ) → ◌≡◌ {A = Option ℤ} None x → x ≡ Some v → P
none-found v e f = cc

pub returns-then-least-cst : goal.returns-then-least-cst
returns-then-least-cst c =
    let least : FitsSigned w128 c.in-Some.least.now = search rules in
    let cst : FitsSigned w128 c.args.row.cst = search rules in
    let test = simp to_z-of_z at c.if-least-cst.true in
    let below : c.in-Some.least.now ≤ℤ c.args.row.cst = grind (arith, ints) in
    rw (← c.self.view_is) (sym (kept-stays c.args.row.coef c.args.row.cst c.in-Some.least.now c.self.inside.least.entries c.self.invariant (sym c.in-Some.ensures.value) below))

pub returns : goal.returns
returns c =
    let cst : FitsSigned w128 c.args.row.cst = search rules in
    let inside : c.match-get.self-inside.least.entries ≡ c.self.inside.least.entries =
    elim c.match-get.branch [ in-Some+else-least-cst w ↦ ap (λ i. i.least.entries) w.self-inside-is | in_default w ↦ ap (λ i. i.least.entries) w.self-inside-is ] in
    let above : (v : ℤ) → lookup (is_at (by_places c.args.row.coef)) c.self.inside.least.entries ≡ Some v → c.args.row.cst <ℤ v =
    elim c.match-get.branch [
      | in-Some+else-least-cst w ↦ (
          let least : FitsSigned w128 w.in-Some.least.now = search rules in
          let test = simp to_z-of_z at w.if-least-cst.false in
          let below : c.args.row.cst <ℤ w.in-Some.least.now = grind (arith, ints) in
          λ v found. below-found v w.in-Some.least.now c.args.row.cst below w.in-Some.ensures.value found)
      | in_default w ↦ λ v found. none-found v w.in_default.ensures.value found
    ] in
    kept-inserted c.args.row.coef c.args.row.cst _ c.self.inside.least.entries c.match-get.self-inside.least.entries c.insert.new.self.entries c.args.self.now c.in_ok-insert.ensures.entries (to_z-of_z w128 c.args.row.cst cst) inside c.self.view_is above
