use Rattle.std.proofs.Common.{◌≡◌, refl, sym, ap, ◌∙◌, [], Result, Some, None, rules}
use Rattle.nest_lang.specs.Heads.{Headed}
use Rattle.nest_lang.specs.Stores.{store_of}
use Rattle.block_exec.specs.Moments.{where_left}
use Rattle.follow.specs.declared.how.Differs.{Differs}
use Rattle.follow.specs.Told.{first_said}
use Rattle.follow.specs.Followed.{occurrence_at}
use Rattle.follow.specs.Hows.{scalars_differ}
use Rattle.follow.specs.Turnings.{turns_differ}
use Rattle.follow.proofs.HeadedLaws.{headed-cut, headed-differs, headed-scalar, headed-done}
use Rattle.follow.proofs.VerifiedLaws.{verified-head}
use Rattle.follow.proofs.verified.follow_head_verified.Goals as goal

pub returns-in-Err-clause-followed : goal.returns-in-Err-clause-followed
returns-in-Err-clause-followed g c = λ p next told own turning.
    let from = store_of (g.P.Port.memory c.args.port.now) c.args.scalars.now [] in
    let was = c.head_over-ended.ensures.evaluated ∙ ap (λ (h : Headed). where_left c.args.left h.value) (verified-head (occurrence_at c.args.site.now) c.args.site.now.values.now _ (g.E.Expected.intervals c.args.expected.now) c.args.head.now from own) in
    rw c.cut_short.ensures
    (headed-cut p (occurrence_at c.args.site.now) next c.args.site.now.values.now c.args.scalars.now (g.E.Expected.intervals c.args.expected.now) (g.E.Expected.after c.args.expected.now) told (g.P.Port.memory c.args.port.now) c.args.head.now
    c.args.left c.head_over-ended.result.yielded c.in-Err.cut c.head_over-ended.result.halt _ was c.in-Err.is refl)

pub returns-in-Some-clause-followed : goal.returns-in-Some-clause-followed
returns-in-Some-clause-followed g c = λ p next told own turning.
    let from = store_of (g.P.Port.memory c.args.port.now) c.args.scalars.now [] in
    let was = c.head_over-ended.ensures.evaluated ∙ ap (λ (h : Headed). where_left c.args.left h.value) (verified-head (occurrence_at c.args.site.now) c.args.site.now.values.now _ (g.E.Expected.intervals c.args.expected.now) c.args.head.now from own) in
    let differ : Some c.in-Some.first ≡ turns_differ c.args.site.now.block.level c.args.turning c.in-Ok.yielded = search rules in
    headed-differs p (occurrence_at c.args.site.now) next c.args.site.now.values.now c.args.scalars.now (g.E.Expected.intervals c.args.expected.now) (g.E.Expected.after c.args.expected.now) told (g.P.Port.memory c.args.port.now) c.args.head.now
    c.args.left c.head_over-ended.result.yielded c.in-Ok.yielded c.head_over-ended.result.halt c.args.turning _ turning was c.in-Ok.is differ

pub returns-in-Err-compare_scalars-clause-followed : goal.returns-in-Err-compare_scalars-clause-followed
returns-in-Err-compare_scalars-clause-followed g c = λ p next told own turning.
    let from = store_of (g.P.Port.memory c.args.port.now) c.args.scalars.now [] in
    let was = c.head_over-ended.ensures.evaluated ∙ ap (λ (h : Headed). where_left c.args.left h.value) (verified-head (occurrence_at c.args.site.now) c.args.site.now.values.now _ (g.E.Expected.intervals c.args.expected.now) c.args.head.now from own) in
    let none : None ≡ turns_differ c.args.site.now.block.level c.args.turning c.in-Ok.yielded = search rules in
    let differ : Some c.compare_scalars.new.how ≡ scalars_differ (g.E.Expected.after c.args.expected.now) 0 c.args.scalars.now =
    sym (ap (λ (r : Result (Unit {0}) Differs). first_said r c.compare_scalars.new.how) c.in-Err-compare_scalars.is) ∙ c.compare_scalars.ensures.first ∙ ap (scalars_differ (g.E.Expected.after c.args.expected.now) 0) c.head_over-ended.ensures.scalars in
    headed-scalar p (occurrence_at c.args.site.now) next c.args.site.now.values.now c.args.scalars.now (g.E.Expected.intervals c.args.expected.now) (g.E.Expected.after c.args.expected.now) told (g.P.Port.memory c.args.port.now) c.args.head.now
    c.args.left c.head_over-ended.result.yielded c.in-Ok.yielded c.head_over-ended.result.halt c.args.turning _ turning was c.in-Ok.is none differ

pub returns-in-Ok-compare_scalars-clause-followed : goal.returns-in-Ok-compare_scalars-clause-followed
returns-in-Ok-compare_scalars-clause-followed g c = λ p next told own turning.
    let from = store_of (g.P.Port.memory c.args.port.now) c.args.scalars.now [] in
    let was = c.head_over-ended.ensures.evaluated ∙ ap (λ (h : Headed). where_left c.args.left h.value) (verified-head (occurrence_at c.args.site.now) c.args.site.now.values.now _ (g.E.Expected.intervals c.args.expected.now) c.args.head.now from own) in
    let none : None ≡ turns_differ c.args.site.now.block.level c.args.turning c.in-Ok.yielded = search rules in
    let same : None ≡ scalars_differ (g.E.Expected.after c.args.expected.now) 0 c.args.scalars.now =
    sym (ap (λ (r : Result (Unit {0}) Differs). first_said r c.compare_scalars.new.how) c.in-Ok-compare_scalars.is) ∙ c.compare_scalars.ensures.first ∙ ap (scalars_differ (g.E.Expected.after c.args.expected.now) 0) c.head_over-ended.ensures.scalars in
    let done =
    headed-done p (occurrence_at c.args.site.now) next c.args.site.now.values.now c.args.scalars.now (g.E.Expected.intervals c.args.expected.now) (g.E.Expected.after c.args.expected.now) told (g.P.Port.memory c.args.port.now) c.args.head.now
    c.args.left c.head_over-ended.result.steps.left c.head_over-ended.result.steps.used c.head_over-ended.result.yielded c.in-Ok.yielded c.head_over-ended.result.halt c.args.turning turning
    was c.in-Ok.is none c.head_over-ended.ensures.left c.head_over-ended.ensures.steps same in
    rw c.head_over-ended.ensures.memory done
