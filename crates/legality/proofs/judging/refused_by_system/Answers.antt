use Rattle.std.proofs.Common.{◌≡◌, take, ◌∙◌, ap, sym, subst, ◌+◌, ◌-◌, None, arith}
use Rattle.std.specs.List.{flat_map, range_with_len}
use Rattle.dependence.specs.Systems.{System}
use Rattle.legality.specs.Judgements.{first_refusal, refuses, told}
use Rattle.legality.proofs.FirstLaws.{none-more, found-here, none-at-end}
use Rattle.legality.proofs.RefusalLaws.{row_trials, trials_of-is, trials_of-none}
use Rattle.std.proofs.lemmas.List.FromFn.{get_or-range_with_len, length-range_with_len}
use Rattle.legality.proofs.judging.refused_by_system.Goals as goal

pub loop-row-preserved : goal.loop-row-preserved
loop-row-preserved g c =
    let t = c.args.pred.now in
    let s = c.args.schedule.now in
    let from = c.loop-row.auto.row in
    let test = c.loop-row-test.true in
    let long = length-range_with_len 1 g.row.D in
    let here : 1 + (c.loop-row.row - 1) ≡ c.loop-row.row = omega arith in
    let next : c.loop-row.row - 1 + 1 ≡ c.loop-row.row + 1 - 1 = omega arith in
    subst (λ n. first_refusal t s (flat_map (row_trials s c.args.system.now) (take n (range_with_len 1 g.row.D))) ≡ None) next
    (none-more (refuses t s) (told t s) (row_trials s c.args.system.now) (range_with_len 1 g.row.D) (c.loop-row.row - 1) c.loop-row.row 0 c.in_ok-found.found (omega arith) (get_or-range_with_len 1 g.row.D (c.loop-row.row - 1) 0 (omega arith) ∙ here) c.loop-row.invariant c.in_ok-found.ensures (sym c.if-is_some.ensures))

pub returns-then-is_some : goal.returns-then-is_some
returns-then-is_some g c =
    let t = c.args.pred.now in
    let s = c.args.schedule.now in
    let from = c.loop-row.auto.row in
    let test = c.loop-row-test.true in
    let long = length-range_with_len 1 g.row.D in
    let here : 1 + (c.loop-row.row - 1) ≡ c.loop-row.row = omega arith in
    let case = ap (λ (x : System). x.case) c.system.view_is in
    found-here (refuses t s) (told t s) (row_trials s c.args.system.now) (range_with_len 1 g.row.D) (c.loop-row.row - 1) c.loop-row.row 0 c.in_ok-found.found (omega arith) (get_or-range_with_len 1 g.row.D (c.loop-row.row - 1) 0 (omega arith) ∙ here) c.loop-row.invariant c.in_ok-found.ensures (sym c.if-is_some.ensures)
    ∙ ap (first_refusal t s) (trials_of-is g.row.D t s c.args.system.now c.requires.table.deep (omega (arith, case, c.if-system.false)))

pub returns : goal.returns
returns g c =
    let t = c.args.pred.now in
    let s = c.args.schedule.now in
    let long = length-range_with_len 1 g.row.D in
    let done = c.loop-row-test.false in
    let case = ap (λ (x : System). x.case) c.system.view_is in
    none-at-end (refuses t s) (told t s) (row_trials s c.args.system.now) (range_with_len 1 g.row.D) (c.loop-row.row - 1) (omega arith) c.loop-row.invariant
    ∙ ap (first_refusal t s) (trials_of-is g.row.D t s c.args.system.now c.requires.table.deep (omega (arith, case, c.if-system.false)))

pub returns-then-system : goal.returns-then-system
returns-then-system g c =
    let case = ap (λ (x : System). x.case) c.system.view_is in
    ap (first_refusal c.args.pred.now c.args.schedule.now) (sym (trials_of-none g.row.D c.args.pred.now c.args.schedule.now c.args.system.now c.requires.table.deep (omega (arith, case, c.if-system.true))))
