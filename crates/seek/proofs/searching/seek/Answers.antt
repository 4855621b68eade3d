use Rattle.std.proofs.Common.{◌≡◌, ◌<◌, ◌≤◌, ◌∙◌, ap, sym, length, [], FitsSigned, w64, rules, arith}
use Rattle.std.proofs.lemmas.Int.{to_z-of_z}
use Rattle.transform.specs.Schedules.{Schedule}
use Rattle.legality.specs.Judgements.{judged_by, refused}
use Rattle.legality.proofs.ChoiceLaws.{chosen, none-chosen, one-refused}
use Rattle.seek.specs.ScheduleLists.{count, schedule_at, schedules}
use Rattle.seek.proofs.SoughtLaws.{legal-by, refused-by, schedule-there, schedules-long}
use Rattle.seek.proofs.searching.seek.Goals as goal

pub loop-place-preserved : goal.loop-place-preserved
loop-place-preserved g c =
    let l : FitsSigned w64 c.args.length = search rules in
    let t = c.args.pred.now in
    let s = schedule_at g.row.D c.loop-place.place in
    let many : c.count-place-end.result ≡ count g.row.D = c.count-place-end.ensures.value in
    let below : c.loop-place.place < count g.row.D = omega (arith, many, c.loop-place-test.true) in
    let inside : c.loop-place.place < length (schedules g.row.D) = omega (arith, below, schedules-long g.row.D) in
    let is = sym c.in-Refused.is ∙ (simp to_z-of_z at c.in_ok-refusal.ensures.value) ∙ ap (λ (x : Schedule). judged_by (refused t c.args.length x)) c.schedule_at.ensures in
    simp to_z-of_z
    (one-refused t c.args.length (schedules g.row.D) c.loop-place.place s c.loop-place.refusals.items c.push.new.self.items c.in-Refused.refusal
    (simp to_z-of_z at c.loop-place.invariant) inside (schedule-there g.row.D c.loop-place.place s below) (refused-by (refused t c.args.length s) c.in-Refused.refusal is) c.in_ok-push-in-Refused.ensures.items)

pub returns-in-Legal-clause-value : goal.returns-in-Legal-clause-value
returns-in-Legal-clause-value g c =
    let l : FitsSigned w64 c.args.length = search rules in
    let t = c.args.pred.now in
    let s = schedule_at g.row.D c.loop-place.place in
    let many : c.count-place-end.result ≡ count g.row.D = c.count-place-end.ensures.value in
    let below : c.loop-place.place < count g.row.D = omega (arith, many, c.loop-place-test.true) in
    let inside : c.loop-place.place < length (schedules g.row.D) = omega (arith, below, schedules-long g.row.D) in
    let is = sym c.in-Legal.is ∙ (simp to_z-of_z at c.in_ok-refusal.ensures.value) ∙ ap (λ (x : Schedule). judged_by (refused t c.args.length x)) c.schedule_at.ensures in
    chosen t c.args.length (schedules g.row.D) c.loop-place.place s c.loop-place.refusals.items
    (simp to_z-of_z at c.loop-place.invariant) inside (schedule-there g.row.D c.loop-place.place s below) (legal-by (refused t c.args.length s) is)

pub returns-clause-value : goal.returns-clause-value
returns-clause-value g c =
    let l : FitsSigned w64 c.args.length = search rules in
    let many : c.count-place-end.result ≡ count g.row.D = c.count-place-end.ensures.value in
    let past : length (schedules g.row.D) ≤ c.loop-place.place = omega (arith, many, c.loop-place-test.false, schedules-long g.row.D) in
    none-chosen c.args.pred.now c.args.length (schedules g.row.D) c.loop-place.place (record { lines = []; seq = 0 }) c.loop-place.refusals.items (simp to_z-of_z at c.loop-place.invariant) past
