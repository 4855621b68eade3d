use Rattle.std.proofs.Common.{◌≡◌, ◌∙◌, ap, inl, inr, subst, ℕ, List, ◌++◌, rules}
use Rattle.std.specs.List.{flat_map}
use Rattle.nest_lang.specs.Runs.{Run, finish_of_ending}
use Rattle.nest_lang.specs.Traces.{Cut, cut_of}
use Rattle.nest_text.specs.Files.{scalar_names}
use Rattle.report.specs.Lines.{line_text}
use Rattle.report.specs.Outcomes.{IsOutcome}
use Rattle.report.specs.declared.journey.Options.{Options as JourneyOptions}
use Rattle.journeys.specs.Journeys.{IsJourney}
use Rattle.journeys.proofs.PlainRunLaws.{run-is-plain}
use Rattle.nest_top.specs.Answers.{journey_options, run_of_file}
use Rattle.nest_top.proofs.HandedLaws.{journey-begun, journey-gains, wanting-file}
use Rattle.nest_top.proofs.speculative.report.Goals as goal

pub returns-clause-answer : goal.returns-clause-answer
returns-clause-answer g c =
    let j = c.in_ok-journey.journey in
    let file = c.args.file.now in
    let options = c.args.options.now in
    let names = scalar_names file in
    let outcome = c.in_ok-bytes.bytes.items in
    let made : (left : ℕ) × IsJourney (journey_options options) file j.lines.items (cut_of j.state left j.steps (finish_of_ending j.ending)) =
    subst (λ (o : JourneyOptions). (left : ℕ) × IsJourney o file j.lines.items (cut_of j.state left j.steps (finish_of_ending j.ending))) c.journey_options.ensures c.in_ok-journey.ensures.journey in
    let end : Cut = cut_of j.state made.0 j.steps (finish_of_ending j.ending) in
    let run : record { store = j.state; ending = finish_of_ending j.ending; steps = j.steps } ≡ run_of_file file options.steps = run-is-plain (journey_options options) file j.lines.items end made.1 in
    let told : c.in_ok-lines.lines.items ≡ flat_map (line_text names) j.lines.items = c.in_ok-lines.ensures ∙ ap (flat_map (line_text names)) c.as_slice.ensures.value in
    let put : c.extend_from_slice.new.self.items ≡ outcome ++ c.in_ok-lines.lines.items = search rules in
    record {
      outcome = outcome;
      is = record {
        ending = j.ending;
        ended = ap (λ (r : Run). r.ending) run;
        written = subst (λ (r : Run). IsOutcome names r.store j.ending r.steps outcome) run c.in_ok-bytes.ensures;
        answered = c.status_of.ensures;
      };
      lines = j.lines.items;
      end = end;
      journey = made.1;
      written = put ∙ ap (λ (lines : List ℕ). outcome ++ lines) told;
    }

pub returns-clause-handed : goal.returns-clause-handed
returns-clause-handed g c =
    journey-gains c.args.options.now c.args.file.now (g.C.Crew.handed c.args.crew.now) (g.C.Crew.handed c.journey.new.crew) c.journey_options.result c.journey.result c.in_ok-journey.journey c.in_ok-journey.was c.journey_options.ensures c.journey.ensures.handed

pub returns-in_err-journey-clause-handed : goal.returns-in_err-journey-clause-handed
returns-in_err-journey-clause-handed g c =
    wanting-file c.args.options.now c.args.file.now _ _ c.from_residual.result c.from_residual.ensures.0
    (inr (journey-begun c.args.options.now c.args.file.now _ _ c.journey_options.result c.journey.result c.in_err-journey.field-0.0 c.in_err-journey.was c.journey_options.ensures c.journey.ensures.handed))

pub returns-in_err-bytes-clause-handed : goal.returns-in_err-bytes-clause-handed
returns-in_err-bytes-clause-handed g c =
    wanting-file c.args.options.now c.args.file.now _ _ c.from_residual-in_err-bytes.result c.from_residual-in_err-bytes.ensures.0
    (inl (journey-gains c.args.options.now c.args.file.now _ _ c.journey_options.result c.journey.result c.in_ok-journey.journey c.in_ok-journey.was c.journey_options.ensures c.journey.ensures.handed))

pub returns-in_err-lines-clause-handed : goal.returns-in_err-lines-clause-handed
returns-in_err-lines-clause-handed g c =
    wanting-file c.args.options.now c.args.file.now _ _ c.from_residual-in_err-lines.result c.from_residual-in_err-lines.ensures.0
    (inl (journey-gains c.args.options.now c.args.file.now _ _ c.journey_options.result c.journey.result c.in_ok-journey.journey c.in_ok-journey.was c.journey_options.ensures c.journey.ensures.handed))

pub returns-in_err-extend_from_slice-clause-handed : goal.returns-in_err-extend_from_slice-clause-handed
returns-in_err-extend_from_slice-clause-handed g c =
    wanting-file c.args.options.now c.args.file.now _ _ c.from_residual-in_err-extend_from_slice.result c.from_residual-in_err-extend_from_slice.ensures.0
    (inl (journey-gains c.args.options.now c.args.file.now _ _ c.journey_options.result c.journey.result c.in_ok-journey.journey c.in_ok-journey.was c.journey_options.ensures c.journey.ensures.handed))
