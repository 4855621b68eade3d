use Rattle.std.proofs.Common.{◌≡◌, ◌∙◌, ◌+◌, ap, subst, arith}
use Rattle.nest_lang.specs.Runs.{Run, finish_of_ending, plain_run}
use Rattle.nest_grammar.specs.Files.{nests_of}
use Rattle.report.specs.Outcomes.{IsOutcome}
use Rattle.nest_text.specs.Files.{scalar_names}
use Rattle.nest_top.specs.Answers.{run_of_file}
use Rattle.nest_top.proofs.PlainLaws.{nests-ran}
use Rattle.nest_top.proofs.plain.plain.Goals as goal

pub returns : goal.returns
returns c =
    let nests = nests_of c.args.file.now in
    let ending = c.in_ok-ending.ending in
    let store = c.run_nests.new.state in
    let used = c.run_nests.new.steps.used in
    let bytes = c.in_ok-bytes.bytes.items in
    let run : record { store = store; ending = finish_of_ending ending; steps = used } ≡ run_of_file c.args.file.now c.args.steps =
    nests-ran nests c.in_ok-state.state store c.args.steps _ used _ (c.in_ok-ending.ensures.ran (c.args.steps + 1) (omega arith))
    ∙ ap (λ s. plain_run nests s c.args.steps) c.in_ok-state.ensures.store in
    record {
      ending = ending;
      ended = ap (λ (r : Run). r.ending) run;
      written = subst (λ (r : Run). IsOutcome (scalar_names c.args.file.now) r.store ending r.steps bytes) run
          c.in_ok-bytes.ensures;
      answered = c.status_of.ensures;
    }
