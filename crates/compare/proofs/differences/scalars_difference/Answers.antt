-- The first scalar that differs is the first difference.
use Rattle.std.proofs.Common.{◌≡◌, sym, ap, ◌∙◌, ℕ, suc, ◌<◌, ℤ, pos, List, length, get_or, drop, drop-cons, to_z, of_z, Option, Some, rules, arith}
use Rattle.std.specs.Int.{w128}
use Rattle.domain.specs.Tables.{Table}
use Rattle.domain.specs.Instances.{Instance}
use Rattle.follow.specs.declared.how.How.{How}
use Rattle.compare.specs.Differences.{scalar_difference, scalars_difference, first_difference}
use Rattle.compare.proofs.differences.scalars_difference.Goals as goal

here : (t : Table) (x : Instance) (n : ℕ) (vs : List ℤ) (v : ℤ) (how : How) → n < length vs → v ≡ get_or vs n (pos 0) → ◌≡◌ {A = Option How} (Some how) (scalar_difference t x n v) → ◌≡◌ {A = Option How} (Some how) (scalars_difference t x n (drop n vs))
here t x n vs v how inside same differs =
    sym (ap (scalars_difference t x n) (drop-cons vs n (pos 0) inside)
    ∙ ap (λ (z : ℤ). first_difference (scalar_difference t x n z) (scalars_difference t x (suc n) (drop (suc n) vs))) (sym same)
    ∙ ap (λ (d : Option How). first_difference d (scalars_difference t x (suc n) (drop (suc n) vs))) (sym differs))

pub returns-in-Some : goal.returns-in-Some
returns-in-Some g c =
    let inside : c.loop-number.number < length c.args.scalars.now = omega arith in
    let same : to_z w128 (of_z w128 c.from.result) ≡ get_or c.args.scalars.now c.loop-number.number (pos 0) = search rules in
    here c.args.pred.now c.args.inst.now c.loop-number.number c.args.scalars.now _ c.in-Some.how inside same c.in-Some.ensures ∙ sym c.loop-number.invariant
