use Rattle.std.proofs.Common.{◌≡◌, ◌∙◌, ◌≤◌, ap, sym, Some, option_map, length, arith}
use Rattle.std.specs.Prelude.{slice_get}
use Rattle.nest_grammar.specs.Files.{nests_of}
use Rattle.nest_top.proofs.PlainLaws.{NestRan, left-end, left-next, left-out}
use Rattle.nest_top.proofs.plain.run_nests.Goals as goal

pub returns-in_default-run_nest_by : goal.returns-in_default-run_nest_by
returns-in_default-run_nest_by c =
    let nests = nests_of c.args.file.now in
    let here : slice_get nests c.nests.number ≡ Some c.in-Some.nest.now = sym c.nest.ensures.nest ∙ ap (option_map (λ n. n.now)) c.in-Some.is in
    let run : NestRan c.in-Some.nest.now c.nests.state c.run_nest_by.new.state c.nests.steps.left c.nests.steps.used c.run_nest_by.new.steps.left c.run_nest_by.new.steps.used c.run_nest_by.result =
    record { ran = c.run_nest_by.ensures.ran; kept = c.run_nest_by.ensures.kept; fewer = c.run_nest_by.ensures.fewer; scalars = c.run_nest_by.ensures.scalars } in
    record {
      ran = left-out nests c.nests.number _ _ _ _ _ _ c.nests.invariant c.in-Some.nest.now _ _ _ c.run_nest_by.result here run c.in_default-run_nest_by.not-Ended;
      scalars = c.run_nest_by.ensures.scalars ∙ c.nests.invariant.scalars;
    }

pub nests-preserved : goal.nests-preserved
nests-preserved c =
    let nests = nests_of c.args.file.now in
    let here : slice_get nests c.nests.number ≡ Some c.in-Some.nest.now = sym c.nest.ensures.nest ∙ ap (option_map (λ n. n.now)) c.in-Some.is in
    let run : NestRan c.in-Some.nest.now c.nests.state c.run_nest_by.new.state c.nests.steps.left c.nests.steps.used c.run_nest_by.new.steps.left c.run_nest_by.new.steps.used c.run_nest_by.result =
    record { ran = c.run_nest_by.ensures.ran; kept = c.run_nest_by.ensures.kept; fewer = c.run_nest_by.ensures.fewer; scalars = c.run_nest_by.ensures.scalars } in
    left-next nests c.nests.number _ _ _ _ _ _ c.nests.invariant c.in-Some.nest.now _ _ _ c.run_nest_by.result here run c.in-Ended.is

pub returns-clause-ran : goal.returns-clause-ran
returns-clause-ran c =
    let nests = nests_of c.args.file.now in
    let all : length nests ≤ c.nests.number = omega (arith, c.nests-test.false, c.nests-number-end.ensures) in
    left-end nests c.nests.number _ _ _ _ _ _ c.nests.invariant all
