use Rattle.std.proofs.Common.{◌≡◌, ◌∙◌, ap, inl, inr, sym, subst, ℕ, ◌++◌, Ok, rules}
use Rattle.nest_lang.specs.Runs.{Run, finish_of_ending}
use Rattle.nest_lang.specs.Traces.{Cut, cut_of}
use Rattle.nest_grammar.specs.Contents.{reading}
use Rattle.nest_gen.specs.declared.shapes.Shape.{Shape}
use Rattle.nest_gen.specs.Generated.{text_of}
use Rattle.report.specs.Summaries.{summary}
use Rattle.report.specs.declared.journey.Options.{Options as JourneyOptions}
use Rattle.journeys.specs.Journeys.{IsJourney}
use Rattle.journeys.proofs.PlainRunLaws.{run-is-plain}
use Rattle.nest_top.specs.Answers.{heading, journey_options, run_of_file, text_made}
use Rattle.nest_top.proofs.HandedLaws.{file-handed, journey-begun, journey-gains, not-begun, wanting-reading}
use Rattle.nest_top.proofs.generated.generated.Goals as goal

pub returns-clause-answer : goal.returns-clause-answer
returns-clause-answer g c =
    let recipe = c.args.recipe in
    let file = c.in_ok-file.file in
    let j = c.in_ok-journey.journey in
    let options = c.args.options.now in
    let reads : reading (text_made recipe) ≡ Ok file = ap (λ (s : Shape). reading (text_of s recipe.seed recipe.size)) (sym c.shape_of.ensures) ∙ c.in_ok-file.ensures in
    let made : (left : ℕ) × IsJourney (journey_options options) file j.lines.items (cut_of j.state left j.steps (finish_of_ending j.ending)) =
    subst (λ (o : JourneyOptions). (left : ℕ) × IsJourney o file j.lines.items (cut_of j.state left j.steps (finish_of_ending j.ending))) c.journey_options.ensures c.in_ok-journey.ensures.journey in
    let end : Cut = cut_of j.state made.0 j.steps (finish_of_ending j.ending) in
    let run : record { store = j.state; ending = finish_of_ending j.ending; steps = j.steps } ≡ run_of_file file options.steps = run-is-plain (journey_options options) file j.lines.items end made.1 in
    let put : c.extend_from_slice.new.self.items ≡ heading recipe ++ summary j.ending j.steps j.lines.items j.state.memory = search rules in (
      file,
      reads,
      record {
        ending = j.ending;
        ended = ap (λ (r : Run). r.ending) run;
        lines = j.lines.items;
        end = end;
        journey = made.1;
        written = put ∙ ap (λ (r : Run). heading recipe ++ summary j.ending r.steps j.lines.items r.store.memory) run;
        answered = c.status_of.ensures;
      },
    )

pub returns-in_err-file-clause-handed : goal.returns-in_err-file-clause-handed
returns-in_err-file-clause-handed g c = not-begun c.args.options.now (g.C.Crew.handed c.args.crew.now) (reading (text_made c.args.recipe)) c.from_residual.result c.from_residual.ensures.0

pub returns-clause-handed : goal.returns-clause-handed
returns-clause-handed g c =
    let recipe = c.args.recipe in
    let reads : reading (text_made recipe) ≡ Ok c.in_ok-file.file = ap (λ (s : Shape). reading (text_of s recipe.seed recipe.size)) (sym c.shape_of.ensures) ∙ c.in_ok-file.ensures in
    file-handed c.args.options.now c.in_ok-file.file _ _ (reading (text_made recipe)) reads _
    (journey-gains c.args.options.now c.in_ok-file.file (g.C.Crew.handed c.args.crew.now) (g.C.Crew.handed c.journey.new.crew) c.journey_options.result c.journey.result c.in_ok-journey.journey c.in_ok-journey.was c.journey_options.ensures c.journey.ensures.handed)

pub returns-in_err-journey-clause-handed : goal.returns-in_err-journey-clause-handed
returns-in_err-journey-clause-handed g c =
    let recipe = c.args.recipe in
    let reads : reading (text_made recipe) ≡ Ok c.in_ok-file.file = ap (λ (s : Shape). reading (text_of s recipe.seed recipe.size)) (sym c.shape_of.ensures) ∙ c.in_ok-file.ensures in
    wanting-reading c.args.options.now c.in_ok-file.file _ _ (reading (text_made recipe)) reads c.from_residual-in_err-journey.result c.from_residual-in_err-journey.ensures.0
    (inr (journey-begun c.args.options.now c.in_ok-file.file _ _ c.journey_options.result c.journey.result c.in_err-journey.field-0.0 c.in_err-journey.was c.journey_options.ensures c.journey.ensures.handed))

pub returns-in_err-bytes-clause-handed : goal.returns-in_err-bytes-clause-handed
returns-in_err-bytes-clause-handed g c =
    let recipe = c.args.recipe in
    let reads : reading (text_made recipe) ≡ Ok c.in_ok-file.file = ap (λ (s : Shape). reading (text_of s recipe.seed recipe.size)) (sym c.shape_of.ensures) ∙ c.in_ok-file.ensures in
    wanting-reading c.args.options.now c.in_ok-file.file _ _ (reading (text_made recipe)) reads c.from_residual-in_err-bytes.result c.from_residual-in_err-bytes.ensures.0
    (inl (journey-gains c.args.options.now c.in_ok-file.file _ _ c.journey_options.result c.journey.result c.in_ok-journey.journey c.in_ok-journey.was c.journey_options.ensures c.journey.ensures.handed))

pub returns-in_err-summary_text-clause-handed : goal.returns-in_err-summary_text-clause-handed
returns-in_err-summary_text-clause-handed g c =
    let recipe = c.args.recipe in
    let reads : reading (text_made recipe) ≡ Ok c.in_ok-file.file = ap (λ (s : Shape). reading (text_of s recipe.seed recipe.size)) (sym c.shape_of.ensures) ∙ c.in_ok-file.ensures in
    wanting-reading c.args.options.now c.in_ok-file.file _ _ (reading (text_made recipe)) reads c.from_residual-in_err-summary_text.result c.from_residual-in_err-summary_text.ensures.0
    (inl (journey-gains c.args.options.now c.in_ok-file.file _ _ c.journey_options.result c.journey.result c.in_ok-journey.journey c.in_ok-journey.was c.journey_options.ensures c.journey.ensures.handed))

pub returns-in_err-extend_from_slice-clause-handed : goal.returns-in_err-extend_from_slice-clause-handed
returns-in_err-extend_from_slice-clause-handed g c =
    let recipe = c.args.recipe in
    let reads : reading (text_made recipe) ≡ Ok c.in_ok-file.file = ap (λ (s : Shape). reading (text_of s recipe.seed recipe.size)) (sym c.shape_of.ensures) ∙ c.in_ok-file.ensures in
    wanting-reading c.args.options.now c.in_ok-file.file _ _ (reading (text_made recipe)) reads c.from_residual-in_err-extend_from_slice.result c.from_residual-in_err-extend_from_slice.ensures.0
    (inl (journey-gains c.args.options.now c.in_ok-file.file _ _ c.journey_options.result c.journey.result c.in_ok-journey.journey c.in_ok-journey.was c.journey_options.ensures c.journey.ensures.handed))
