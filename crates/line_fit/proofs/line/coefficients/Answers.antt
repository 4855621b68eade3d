use Rattle.std.proofs.Common.{sym, subst, ◌∙◌, ◌<◌, ◌≤◌, ℤ, length, unsigned_abs, arith}
use Rattle.std.proofs.lemmas.List.{length-set}
use Rattle.line_fit.specs.Samples.{IsCoefficient}
use Rattle.line_fit.specs.Lines.{largest}
use Rattle.line_fit.proofs.CoefficientLaws.{below-set, small-fits, coefficients-whole, large-found, error-as}
use Rattle.line_fit.proofs.line.coefficients.Goals as goal

pub loop-counter-preserved : goal.loop-counter-preserved
loop-counter-preserved g c =
    let kept = small-fits c.in_ok-found.field-0 c.in_ok-found.ensures.size in
    let inside : c.loop-counter.counter < length c.loop-counter.found = omega arith in
    record {
      counters = length-set c.loop-counter.found c.loop-counter.counter _ ∙ c.loop-counter.invariant.counters;
      each = below-set (λ k v. IsCoefficient k c.args.samples.now v) c.loop-counter.found c.loop-counter.counter _ inside c.loop-counter.invariant.each (subst (IsCoefficient c.loop-counter.counter c.args.samples.now) (sym kept) c.in_ok-found.ensures.is);
      small = below-set (λ k v. unsigned_abs v ≤ largest) c.loop-counter.found c.loop-counter.counter _ inside c.loop-counter.invariant.small (subst (λ (v : ℤ). unsigned_abs v ≤ largest) (sym kept) c.in_ok-found.ensures.size);
    }

pub returns-in_err-found : goal.returns-in_err-found
returns-in_err-found g c =
    error-as c.from_residual.result _ _ c.in_err-found.field-0.0 c.from_residual.ensures.1
    (large-found g.row.D c.args.samples.now c.loop-counter.found c.loop-counter.counter c.in_err-found.field-0.0 c.loop-counter-test.true c.loop-counter.invariant.each c.loop-counter.invariant.small c.in_err-found.ensures.is c.in_err-found.ensures.size)

pub returns : goal.returns
returns g c = coefficients-whole g.row.D c.args.samples.now c.loop-counter.found c.loop-counter.counter c.loop-counter.invariant.counters c.loop-counter-test.false c.loop-counter.invariant.each c.loop-counter.invariant.small
