use Rattle.std.proofs.Common.{◌≡◌, ◌<◌, ◌-◌, ◌∙◌, ap, sym, subst, true, false, ℕ, List, length, get_or, Option, Some, Bor, FitsSigned, w64, lit<, rules, arith}
use Rattle.std.specs.Prelude.{IfSome, is_some, nat_lt}
use Rattle.std.proofs.lemmas.Int.{to_z-of_z}
use Rattle.std.proofs.lemmas.Bool.Decides.{nat_tests}
use Rattle.domain.specs.Tables.{IsTable}
use Rattle.dependence.specs.Systems.{IsSystemOf, System}
use Rattle.seek.specs.Confirmations.{IsPlaced}
use Rattle.seek.proofs.RefutedLaws.{confirmed, if-confirmed, no-place, no-system}
use Rattle.seek.proofs.confirming.confirms.Goals as goal

got : (o : Option (Bor System)) (b : Bor System) (k : ℕ) (xs : List System) → IfSome o (λ x. x.now ≡ get_or xs k x.now) → o ≡ Some b → b.now ≡ get_or xs k b.now
got o b k xs h e = subst (λ (z : Option (Bor System)). IfSome z (λ x. x.now ≡ get_or xs k x.now)) e h

within : (o : Option (Bor System)) (b : Bor System) (k n : ℕ) → is_some o ≡ nat_lt k n → o ≡ Some b → k < n
within o b k n h e = let t : nat_lt k n ≡ true = sym h ∙ ap is_some e in grind (arith, nat_tests)

pub has_verdict-requires : goal.has_verdict-requires
has_verdict-requires g c =
    let t = c.args.pred.now in
    let (have, here, in-reach, either, tied) = c.get.ensures.lookup in
    let k = c.from.result - 1 in
    let same = c.deref.ensures.value in
    let inside = within c.get.result c.in-Some.system k (length c.deref.result.now) have c.in-Some.is in
    let there = got c.get.result c.in-Some.system k c.deref.result.now here c.in-Some.is in
    let of : IsSystemOf t c.in-Some.system.now = subst (IsSystemOf t) (sym there) (subst (λ (xs : List System). IsSystemOf t (get_or xs k c.in-Some.system.now)) (sym same) (c.in_ok-systems.ensures.are k c.in-Some.system.now (subst (λ (xs : List System). k < length xs) same inside))) in
    let yes : c.is_placed.result ≡ true = search rules in
    let placed : IsPlaced g.row.D t c.args.schedule.now c.args.refusal.now = c.is_placed.ensures.placed.0 yes in
    (lit< tt, (search rules, (c.requires.few, (of, (placed.row_from, placed.row_to)))))

pub returns-then-not-is_placed : goal.returns-then-not-is_placed
returns-then-not-is_placed g c =
    let table : IsTable g.row.D c.args.pred.now = c.is_placed.ensures.table in
    let not-placed : c.is_placed.result ≡ false = search rules in
    no-place g.row.D c.args.pred.now c.args.length c.args.schedule.now c.args.refusal.now c.is_placed.result table.deep not-placed c.is_placed.ensures.placed.1

pub returns-in_default : goal.returns-in_default
returns-in_default g c =
    let l : FitsSigned w64 c.args.length = search rules in
    let table : IsTable g.row.D c.args.pred.now = c.is_placed.ensures.table in
    let (have, here, in-reach, either, tied) = c.get.ensures.lookup in
    no-system g.row.D c.args.pred.now c.args.length c.args.schedule.now c.args.refusal.now c.deref.result.now c.from.result table.deep (c.deref.ensures.value ∙ (simp to_z-of_z at c.in_ok-systems.ensures.value)) c.from.ensures (sym (ap is_some c.in_default.is) ∙ have)

pub returns : goal.returns
returns g c =
    let l : FitsSigned w64 c.args.length = search rules in
    let t = c.args.pred.now in
    let table : IsTable g.row.D t = c.is_placed.ensures.table in
    let (have, here, in-reach, either, tied) = c.get.ensures.lookup in
    let k = c.from.result - 1 in
    let inside = within c.get.result c.in-Some.system k (length c.deref.result.now) have c.in-Some.is in
    let there = got c.get.result c.in-Some.system k c.deref.result.now here c.in-Some.is in
    let yes : c.is_placed.result ≡ true = search rules in
    if-confirmed c.has_verdict.result (λ b iff. confirmed g.row.D t c.args.length c.args.schedule.now c.args.refusal.now c.deref.result.now c.in-Some.system.now c.from.result b table.deep (c.is_placed.ensures.placed.0 yes) (c.deref.ensures.value ∙ (simp to_z-of_z at c.in_ok-systems.ensures.value)) c.from.ensures inside there iff) c.has_verdict.ensures
