use Rattle.std.proofs.Common.{sym, ap, ◌∙◌, Some, None, length}
use Rattle.std.specs.Option.{option_copied}
use Rattle.line_fit.specs.Samples.{one_less}
use Rattle.line_fit.proofs.IndexLaws.{index-told, sample_at-read}
use Rattle.line_fit.proofs.StepLaws.{step-found, step-first, step-absent, step-late}
use Rattle.line_fit.proofs.rise.step_to.Goals as goal

pub returns-in-Some-clause-step : goal.returns-in-Some-clause-step
returns-in-Some-clause-step g c =
    let here = ap (λ s. one_less c.args.counter s.at) (c.sample.view_is ∙ sample_at-read c.args.samples.now c.args.place c.index-samples-place.result c.requires.place c.index-samples-place.is) in
    let found = index-told c.args.samples.now (length c.args.samples.now) c.args.firsts.now c.in_ok-less.less _ (Some c.in-Some.earlier.now) c.requires.index (c.in_ok-less.ensures.some ∙ here) (sym c.get.ensures.value ∙ ap option_copied c.in-Some.is) in
    step-found c.args.counter c.args.samples.now (length c.args.samples.now) c.in-Some.earlier.now c.args.place found c.if-earlier-place.true c.requires.place

pub returns-in-Some-clause-first : goal.returns-in-Some-clause-first
returns-in-Some-clause-first g c =
    let here = ap (λ s. one_less c.args.counter s.at) (c.sample.view_is ∙ sample_at-read c.args.samples.now c.args.place c.index-samples-place.result c.requires.place c.index-samples-place.is) in
    let found = index-told c.args.samples.now (length c.args.samples.now) c.args.firsts.now c.in_ok-less.less _ (Some c.in-Some.earlier.now) c.requires.index (c.in_ok-less.ensures.some ∙ here) (sym c.get.ensures.value ∙ ap option_copied c.in-Some.is) in
    step-first c.args.counter c.args.samples.now (length c.args.samples.now) c.in-Some.earlier.now c.args.place found

pub returns-in_default-clause-step : goal.returns-in_default-clause-step
returns-in_default-clause-step g c =
    let here = ap (λ s. one_less c.args.counter s.at) (c.sample.view_is ∙ sample_at-read c.args.samples.now c.args.place c.index-samples-place.result c.requires.place c.index-samples-place.is) in
    let found = index-told c.args.samples.now (length c.args.samples.now) c.args.firsts.now c.in_ok-less.less _ (Some c.in-Some.earlier.now) c.requires.index (c.in_ok-less.ensures.some ∙ here) (sym c.get.ensures.value ∙ ap option_copied c.in-Some.is) in
    step-late c.args.counter c.args.samples.now (length c.args.samples.now) c.in-Some.earlier.now c.args.place found c.if-earlier-place.false

pub returns-in_default-2-clause-step : goal.returns-in_default-2-clause-step
returns-in_default-2-clause-step g c =
    let here = ap (λ s. one_less c.args.counter s.at) (c.sample.view_is ∙ sample_at-read c.args.samples.now c.args.place c.index-samples-place.result c.requires.place c.index-samples-place.is) in
    let absent = index-told c.args.samples.now (length c.args.samples.now) c.args.firsts.now c.in_ok-less.less _ None c.requires.index (c.in_ok-less.ensures.some ∙ here) (sym c.get.ensures.value ∙ ap option_copied c.in_default.is) in
    step-absent c.args.counter c.args.samples.now (length c.args.samples.now) c.args.place c.requires.place absent
