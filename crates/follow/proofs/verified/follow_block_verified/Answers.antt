use Rattle.std.proofs.Common.{◌≡◌, ◌+◌, refl, sym, subst, ap, ◌∙◌, ℤ, List, [], length, Result, Ok, Some, None, rules}
use Rattle.nest_lang.specs.Stores.{store_of}
use Rattle.nest_lang.specs.Traces.{Trace, cut}
use Rattle.nest_lang.specs.Statements.{instance_trace}
use Rattle.block_exec.specs.Sites.{frame_at}
use Rattle.follow.specs.declared.how.Differs.{Differs}
use Rattle.follow.specs.Told.{first_said}
use Rattle.follow.specs.Forecasts.{expectation_at}
use Rattle.follow.specs.Followed.{IsFollowed, occurrence_at}
use Rattle.follow.specs.Hows.{scalars_differ}
use Rattle.follow.proofs.FollowedLaws.{block-cut, block-scalar, block-done}
use Rattle.follow.proofs.VerifiedLaws.{verified-block}
use Rattle.follow.proofs.verified.follow_block_verified.Goals as goal

pub returns-in-Err-clause-followed : goal.returns-in-Err-clause-followed
returns-in-Err-clause-followed g c = λ p next told own.
    let from = store_of (g.P.Port.memory c.args.port.now) c.args.scalars.now [] in
    let was = c.block.ensures.ran.cut ∙ ap (λ (t : Trace). cut t from c.args.left 0) (verified-block (occurrence_at c.args.site.now) c.args.site.now.values.now _ (g.E.Expected.intervals c.args.expected.now) c.args.block.now from own) in
    rw c.cut_short.ensures
    (block-cut p (occurrence_at c.args.site.now) next c.args.site.now.values.now c.args.scalars.now (g.E.Expected.intervals c.args.expected.now) (g.E.Expected.after c.args.expected.now) told (g.P.Port.memory c.args.port.now) c.args.block.now
    c.args.left c.block.new.self.steps.left c.block.new.self.steps.used c.block.result c.in-Err.cut c.block.new.self.halt
    (g.P.Port.memory c.block.new.self.port.now) c.block.new.self.scalars.now [] _ was c.in-Err.is refl)

pub returns-in-Ok-clause-followed : goal.returns-in-Ok-clause-followed
returns-in-Ok-clause-followed g c = λ p next told own.
    let from = store_of (g.P.Port.memory c.args.port.now) c.args.scalars.now [] in
    let was = c.block.ensures.ran.cut ∙ ap (λ (t : Trace). cut t from c.args.left 0) (verified-block (occurrence_at c.args.site.now) c.args.site.now.values.now _ (g.E.Expected.intervals c.args.expected.now) c.args.block.now from own) in
    let same : None ≡ scalars_differ (g.E.Expected.after c.args.expected.now) 0 c.block.new.self.scalars.now =
    sym (ap (λ (r : Result (Unit {0}) Differs). first_said r c.compare_scalars.new.how) c.in-Ok.is) ∙ c.compare_scalars.ensures.first in
    let sum : c.block.new.self.steps.left + c.block.new.self.steps.used ≡ c.args.left = search rules in
    let count : length c.block.new.self.scalars.now ≡ length c.args.scalars.now = search rules in
    let done =
    block-done p (occurrence_at c.args.site.now) next c.args.site.now.values.now c.args.scalars.now (g.E.Expected.intervals c.args.expected.now) (g.E.Expected.after c.args.expected.now) told (g.P.Port.memory c.args.port.now) c.args.block.now
    c.args.left c.block.new.self.steps.left c.block.new.self.steps.used c.block.result c.in_default.field-0 c.block.new.self.halt
    (g.P.Port.memory c.block.new.self.port.now) c.block.new.self.scalars.now was c.in_default.is sum count same in
    let there : g.P.Port.memory c.block.new.self.port.now ≡ g.P.Port.memory c.port-in-Ok-1.given.0 = search rules in
    subst (λ (m : List ℤ). IsFollowed p next (instance_trace (frame_at c.args.site.now (expectation_at p (occurrence_at c.args.site.now))) c.args.block.now from) from c.args.left (Ok c.block.new.self.steps.used) m) there done

pub returns-in-Err-compare_scalars-clause-followed : goal.returns-in-Err-compare_scalars-clause-followed
returns-in-Err-compare_scalars-clause-followed g c = λ p next told own.
    let from = store_of (g.P.Port.memory c.args.port.now) c.args.scalars.now [] in
    let was = c.block.ensures.ran.cut ∙ ap (λ (t : Trace). cut t from c.args.left 0) (verified-block (occurrence_at c.args.site.now) c.args.site.now.values.now _ (g.E.Expected.intervals c.args.expected.now) c.args.block.now from own) in
    let differ : Some c.compare_scalars.new.how ≡ scalars_differ (g.E.Expected.after c.args.expected.now) 0 c.block.new.self.scalars.now =
    sym (ap (λ (r : Result (Unit {0}) Differs). first_said r c.compare_scalars.new.how) c.in-Err-compare_scalars.is) ∙ c.compare_scalars.ensures.first in
    block-scalar p (occurrence_at c.args.site.now) next c.args.site.now.values.now c.args.scalars.now (g.E.Expected.intervals c.args.expected.now) (g.E.Expected.after c.args.expected.now) told (g.P.Port.memory c.args.port.now) c.args.block.now
    c.args.left c.block.new.self.steps.left c.block.new.self.steps.used c.block.result c.in_default.field-0 c.block.new.self.halt
    (g.P.Port.memory c.block.new.self.port.now) c.block.new.self.scalars.now [] _ was c.in_default.is differ
