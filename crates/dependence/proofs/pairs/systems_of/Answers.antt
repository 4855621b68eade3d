use Rattle.std.proofs.Common.{All, ◌≡◌, ◌∙◌, ap₂, subst, sym, ◌-◌, ◌+◌, true, nat_lt, FitsSigned, w64, rules, arith}
use Rattle.std.specs.Prelude.{if◌then◌else◌}
use Rattle.std.proofs.lemmas.Int.{to_z-of_z}
use Rattle.domain.specs.Tables.{depth}
use Rattle.dependence.specs.Systems.{IsSystemOf, pairs, referred, system}
use Rattle.dependence.proofs.PairLaws.{more-cases, systems_of-all, systems_of-is}
use Rattle.dependence.proofs.pairs.systems_of.Goals as goal

pub loop-case-preserved : goal.loop-case-preserved
loop-case-preserved g c =
    let l : FitsSigned w64 c.args.length = search rules in
    simp to_z-of_z (more-cases c.loop-case.found.items c.push.new.self.items (system c.args.pred.now c.args.length c.args.first c.args.second) c.loop-case.case c.in_ok-system_for.field-0 c.loop-case.auto.case (simp to_z-of_z at c.loop-case.invariant) c.in_ok-push.ensures.items (simp to_z-of_z at c.in_ok-system_for.ensures))

pub returns-clause-value : goal.returns-clause-value
returns-clause-value g c =
    let l : FitsSigned w64 c.args.length = search rules in
    let count-is = c.case_count-case-end.ensures in
    let deep = c.referred.ensures.deep in
    let count : c.loop-case.case - 1 ≡ depth c.args.pred.now + (if nat_lt c.args.first.block c.args.second.block then 1 else 0) = omega arith in
    let both : pairs (referred c.args.pred.now c.args.first) (referred c.args.pred.now c.args.second) ≡ true = ap₂ pairs (sym c.referred.ensures.value) (sym c.referred-2.ensures.value) ∙ sym c.if-not-are_pair.ensures in
    (simp to_z-of_z at c.loop-case.invariant) ∙ systems_of-is c.args.pred.now c.args.length c.args.first c.args.second (c.loop-case.case - 1) both count

pub returns-clause-are : goal.returns-clause-are
returns-clause-are g c = subst (All (IsSystemOf c.args.pred.now)) (sym (returns-clause-value g c)) (systems_of-all c.args.pred.now c.args.length c.args.first c.args.second c.requires.first c.requires.second)
