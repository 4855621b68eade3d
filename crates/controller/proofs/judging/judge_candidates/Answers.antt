use Rattle.std.proofs.Common.{◌≡◌, ℕ, ◌-◌, ◌++◌, ◌∙◌, ap, ap₂, sym, subst, ℤ, pos, List, length, w64, to_z, arith, rules}
use Rattle.std.specs.Prelude.{slice_get, IfSome}
use Rattle.std.specs.List.{All}
use Rattle.transform.specs.Schedules.{Schedule}
use Rattle.dependence.specs.Legality.{Legal}
use Rattle.domain.specs.Tables.{IsTable}
use Rattle.domain.specs.Shapes.{IsTableOf}
use Rattle.legality.specs.declared.refusals.Refusal.{Refusal}
use Rattle.legality.specs.Choices.{Choice, choice}
use Rattle.profile.specs.Fits.{IsFitOf}
use Rattle.journeys.specs.Settings.{Setting, Moment, observed}
use Rattle.journeys.specs.Tellings.{illegal_lines}
use Rattle.controller.specs.declared.stage.Stage.TheVariants.{Chunks, Plainly}
use Rattle.controller.specs.Courses.{IsJudged, NamesPresent}
use Rattle.controller.proofs.JudgedLaws.{chosen-judged, chunk-signed, none-judged, refusals-few, refusals-present}
use Rattle.controller.proofs.judging.judge_candidates.Goals as goal

pub tell_refused-requires-clause-few : goal.tell_refused-requires-clause-few
tell_refused-requires-clause-few g c =
    let it = c.course.inside in
    let turns = chunk-signed it.chunk c.course.invariant.chunk_to in
    let is : c.in_ok-choice.choice ≡ choice c.args.pred (pos it.chunk) it.candidates.items =
    c.in_ok-choice.ensures.value ∙ ap₂ (λ (L : ℤ) (ss : List Schedule). choice c.args.pred L ss) turns c.as_slice.ensures.value in
    let few = refusals-few c.args.pred it.chunk it.candidates.items c.in_ok-choice.choice is in
    let least = c.course.invariant.candidates in
    let same : c.as_slice-2.result.now ≡ c.in_ok-choice.choice.refusals = c.as_slice-2.ensures.value ∙ ap (λ (x : Choice). x.refusals) c.choice.view_is in
    let long = ap length same in
    omega (arith, few, least, long)

pub tell_refused-requires-clause-present : goal.tell_refused-requires-clause-present
tell_refused-requires-clause-present g c =
    let it = c.course.inside in
    let s : Setting = record { loops = it.nest.now.loops; scalars = it.scalars; candidates = it.candidates.items; sample = it.sample; chunk = it.chunk } in
    let turns = chunk-signed it.chunk c.course.invariant.chunk_to in
    let is : c.in_ok-choice.choice ≡ choice c.args.pred (pos it.chunk) it.candidates.items =
    c.in_ok-choice.ensures.value ∙ ap₂ (λ (L : ℤ) (ss : List Schedule). choice c.args.pred L ss) turns c.as_slice.ensures.value in
    let same : c.as_slice-2.result.now ≡ c.in_ok-choice.choice.refusals = c.as_slice-2.ensures.value ∙ ap (λ (x : Choice). x.refusals) c.choice.view_is in
    let of : IsTableOf it.scalars it.nest.now.loops c.args.pred = subst (λ (x : Setting). IsTableOf x.scalars x.loops c.args.pred) (sym c.course.view_is) c.requires in
    subst (λ (rs : List Refusal). All (NamesPresent it.nest.now.loops) rs) (sym same) (refusals-present s c.args.pred it.chunk c.in_ok-choice.choice of is)

pub returns-in-Some : goal.returns-in-Some
returns-in-Some g c =
    let it = c.course.inside in
    let s : Setting = record { loops = it.nest.now.loops; scalars = it.scalars; candidates = it.candidates.items; sample = it.sample; chunk = it.chunk } in
    let turns = chunk-signed it.chunk c.course.invariant.chunk_to in
    let is : c.in_ok-choice.choice ≡ choice c.args.pred (pos it.chunk) it.candidates.items =
    c.in_ok-choice.ensures.value ∙ ap₂ (λ (L : ℤ) (ss : List Schedule). choice c.args.pred L ss) turns c.as_slice.ensures.value in
    let same : c.as_slice-2.result.now ≡ c.in_ok-choice.choice.refusals = c.as_slice-2.ensures.value ∙ ap (λ (x : Choice). x.refusals) c.choice.view_is in
    let told : c.tell_refused.new.lines.items ≡ c.args.lines.now.items ++ illegal_lines it.nest.now.loops 1 c.in_ok-choice.choice.refusals =
    c.in_ok-tell_refused.ensures ∙ ap (λ (rs : List Refusal). c.args.lines.now.items ++ illegal_lines it.nest.now.loops 1 rs) same in
    let shape : IsTable g.row.D c.args.pred = search rules in
    let legal =
    subst (λ (L : ℤ). IfSome c.in_ok-choice.choice.legal (λ n. IfSome (slice_get it.candidates.items (n - 1)) (λ x. Legal c.args.pred x L))) turns
    (subst (λ (ss : List Schedule). IfSome c.in_ok-choice.choice.legal (λ n. IfSome (slice_get ss (n - 1)) (λ x. Legal c.args.pred x (to_z w64 it.chunk)))) c.as_slice.ensures.value c.in_ok-choice.ensures.legal) in
    subst (λ (x : Setting). (m : Moment) (turns : ℕ) → IsFitOf (length x.loops) x.scalars x.loops (observed x m turns) c.args.pred
    → IsJudged {D = g.row.D} x (observed x m turns) c.args.lines.now.items (Chunks (record { pred = c.args.pred; number = c.in-Some.number })) c.tell_refused.new.lines.items) c.course.view_is
    (λ m turns fit. chosen-judged s c.args.pred c.in_ok-choice.choice is c.args.lines.now.items c.tell_refused.new.lines.items told m turns fit g.row.D c.in-Some.number
    (subst (λ (n : ℕ). IsTable n c.args.pred) (sym c.course.invariant.depth) shape) (ap (λ (x : Choice). x.legal) (sym c.choice.view_is) ∙ c.in-Some.is) legal)

pub returns-in-None : goal.returns-in-None
returns-in-None g c =
    let it = c.course.inside in
    let s : Setting = record { loops = it.nest.now.loops; scalars = it.scalars; candidates = it.candidates.items; sample = it.sample; chunk = it.chunk } in
    let turns = chunk-signed it.chunk c.course.invariant.chunk_to in
    let is : c.in_ok-choice.choice ≡ choice c.args.pred (pos it.chunk) it.candidates.items =
    c.in_ok-choice.ensures.value ∙ ap₂ (λ (L : ℤ) (ss : List Schedule). choice c.args.pred L ss) turns c.as_slice.ensures.value in
    let same : c.as_slice-2.result.now ≡ c.in_ok-choice.choice.refusals = c.as_slice-2.ensures.value ∙ ap (λ (x : Choice). x.refusals) c.choice.view_is in
    let told : c.tell_refused.new.lines.items ≡ c.args.lines.now.items ++ illegal_lines it.nest.now.loops 1 c.in_ok-choice.choice.refusals =
    c.in_ok-tell_refused.ensures ∙ ap (λ (rs : List Refusal). c.args.lines.now.items ++ illegal_lines it.nest.now.loops 1 rs) same in
    subst (λ (x : Setting). (m : Moment) (turns : ℕ) → IsFitOf (length x.loops) x.scalars x.loops (observed x m turns) c.args.pred
    → IsJudged {D = g.row.D} x (observed x m turns) c.args.lines.now.items (Plainly it.chunk) c.tell_refused.new.lines.items) c.course.view_is
    (λ m turns fit. none-judged s c.args.pred c.in_ok-choice.choice is c.args.lines.now.items c.tell_refused.new.lines.items told m turns fit g.row.D (ap (λ (x : Choice). x.legal) (sym c.choice.view_is) ∙ c.in-None.is) c.course.invariant.chunk_from)
