use Rattle.std.proofs.Common.{◌∙◌, sym, ap, arith, ℕ}
use Rattle.dependence.specs.Systems.{counter_form}
use Rattle.dependence.proofs.FormLaws.{place-counter}
use Rattle.dependence.proofs.places.place_sum.Goals as goal

pub returns-then-place-counters-clause-value : goal.returns-then-place-counters-clause-value
returns-then-place-counters-clause-value g c =
    let count = c.counters-counters.ensures.value in
    c.counter.ensures.value ∙ ap (λ (n : ℕ). counter_form n c.args.place) (sym c.requires.table.deep)
    ∙ sym (place-counter c.args.pred.now c.args.block.now c.args.place (omega (arith, count, c.if-place-counters.true)))
