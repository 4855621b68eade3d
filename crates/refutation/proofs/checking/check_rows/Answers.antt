use Rattle.std.proofs.Common.{◌∙◌, true, false, refl, sym, ap}
use Rattle.fourier_motzkin.specs.RowSets.{is_false}
use Rattle.refutation.specs.Refutations.{Refutation, row_at}
use Rattle.refutation.proofs.CheckLaws.{all-checked, flaw-found, yes-exactly}
use Rattle.refutation.proofs.checking.check_rows.Goals as goal

pub returns-in-Some-clause-value : goal.returns-in-Some-clause-value
returns-in-Some-clause-value c =
    flaw-found c.args.rows.now c.args.proof.now c.deref-add-items.result.now c.loop-number.number c.loop-number.all.items _ _ _ c.in-Some.why c.loop-number.invariant
    (c.deref-add-items.ensures.value ∙ ap (λ (proof : Refutation). proof.adds) c.proof.view_is) c.loop-number-test.true refl c.deref.ensures.value (sym c.in-Some.is ∙ c.flaw.ensures)

pub returns-in-Some-clause-yes : goal.returns-in-Some-clause-yes
returns-in-Some-clause-yes c = yes-exactly c.args.rows.now c.args.proof.now _ c.requires.factors (returns-in-Some-clause-value c)

pub returns-then-ends_false-clause-value : goal.returns-then-ends_false-clause-value
returns-then-ends_false-clause-value c =
    all-checked c.args.rows.now c.args.proof.now c.deref-add-items.result.now c.loop-number.number c.loop-number.all.items _ true c.loop-number.invariant
    (c.deref-add-items.ensures.value ∙ ap (λ (proof : Refutation). proof.adds) c.proof.view_is) c.loop-number-test.false c.deref-2.ensures.value
    (sym c.if-ends_false.true ∙ c.ends_false.ensures ∙ ap (λ (proof : Refutation). is_false (row_at c.deref-2.result.now proof.last)) c.proof.view_is)

pub returns-then-ends_false-clause-yes : goal.returns-then-ends_false-clause-yes
returns-then-ends_false-clause-yes c = yes-exactly c.args.rows.now c.args.proof.now _ c.requires.factors (returns-then-ends_false-clause-value c)

pub returns-clause-value : goal.returns-clause-value
returns-clause-value c =
    all-checked c.args.rows.now c.args.proof.now c.deref-add-items.result.now c.loop-number.number c.loop-number.all.items _ false c.loop-number.invariant
    (c.deref-add-items.ensures.value ∙ ap (λ (proof : Refutation). proof.adds) c.proof.view_is) c.loop-number-test.false c.deref-2.ensures.value
    (sym c.if-ends_false.false ∙ c.ends_false.ensures ∙ ap (λ (proof : Refutation). is_false (row_at c.deref-2.result.now proof.last)) c.proof.view_is)
