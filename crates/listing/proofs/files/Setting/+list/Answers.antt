use Rattle.std.proofs.Common.{◌≡◌, ap, subst, suc, ◌+◌, List, ◌∷◌, length, arith, rules}
use Rattle.std.proofs.lemmas.Bool.Decides.{nat_tests}
use Rattle.std.proofs.lemmas.Result.{on_ok_weaker}
use Rattle.nest_lang.specs.Stores.{Store}
use Rattle.nest_lang.specs.Runs.{finish_of_ending, nest_trace}
use Rattle.nest_grammar.specs.declared.file.NestUnit.{NestUnit}
use Rattle.listing.specs.Listings.{AreNestLines, run_of_nest}
use Rattle.listing.specs.Parts.{Adds}
use Rattle.listing.proofs.FileLaws.{first-unit, later-units}
use Rattle.listing.proofs.NestLaws.{RunIs, last-added, next-added, run-is, stopped-added}
use Rattle.listing.proofs.files.Setting.+list.Goals as goal

pub list-requires-clause-unit : goal.list-requires-clause-unit
list-requires-clause-unit t c =
    let split : c.args.units.now ≡ c.in-Some.unit.now ∷ c.in-Some.later.now = c.in-Some.ensures.cases.0 in
    first-unit c.args.self.scalars c.args.units.now c.in-Some.later.now c.in-Some.unit.now split c.requires.units

pub list-requires-in-Ended : goal.list-requires-in-Ended
list-requires-in-Ended t c =
    let split : c.args.units.now ≡ c.in-Some.unit.now ∷ c.in-Some.later.now = c.in-Some.ensures.cases.0 in
    let long : length c.args.units.now ≡ suc (length c.in-Some.later.now) = ap (λ (us : List NestUnit). length us) split in
    (first_of (search rules, omega arith, grind arith), (later-units c.args.self.scalars c.args.units.now c.in-Some.later.now c.in-Some.unit.now split c.requires.units, (omega (arith, long), (omega arith, omega arith))))

pub returns-then-is_empty : goal.returns-then-is_empty
returns-then-is_empty t c =
    let split : c.args.units.now ≡ c.in-Some.unit.now ∷ c.in-Some.later.now = c.in-Some.ensures.cases.0 in
    let none : length c.in-Some.later.now ≡ 0 = grind (arith, nat_tests) in
    let self = c.args.self in
    let own : Adds (AreNestLines self.options self.scalars c.in-Some.unit.now c.args.state.now c.args.steps.left) c.list_heading.new.lines.items c.list.new.lines.items =
    subst (λ (s : Store). Adds (AreNestLines self.options self.scalars c.in-Some.unit.now s c.args.steps.left) c.list_heading.new.lines.items c.list.new.lines.items) c.in_ok-profiled.ensures c.in_ok-list.ensures in
    last-added self.options self.version self.scalars c.in-Some.unit.now c.args.number c.args.state.now c.args.steps.left c.args.lines.now.items c.list_heading.new.lines.items c.list.new.lines.items c.in_ok-list_heading.ensures own c.args.units.now c.in-Some.later.now split none

pub returns-in-Ended : goal.returns-in-Ended
returns-in-Ended t c =
    let split : c.args.units.now ≡ c.in-Some.unit.now ∷ c.in-Some.later.now = c.in-Some.ensures.cases.0 in
    let self = c.args.self in
    let own : Adds (AreNestLines self.options self.scalars c.in-Some.unit.now c.args.state.now c.args.steps.left) c.list_heading.new.lines.items c.list.new.lines.items =
    subst (λ (s : Store). Adds (AreNestLines self.options self.scalars c.in-Some.unit.now s c.args.steps.left) c.list_heading.new.lines.items c.list.new.lines.items) c.in_ok-profiled.ensures c.in_ok-list.ensures in
    let ran : RunIs c.run_nest.new.state c.run_nest.new.steps.left (finish_of_ending c.run_nest.result) (run_of_nest c.in-Some.unit.now c.args.state.now c.args.steps.left) =
    run-is (nest_trace (c.args.steps.left + 1) c.in-Some.unit.now.nest.loops c.args.state.now) c.args.state.now c.run_nest.new.state c.args.steps.left c.args.steps.used c.run_nest.new.steps.left c.run_nest.new.steps.used (finish_of_ending c.run_nest.result) (c.run_nest.ensures.ran (c.args.steps.left + 1) (omega arith)) in
    let next : c.args.number + 1 ≡ suc c.args.number = omega arith in
    on_ok_weaker c.list-in-Ended.result
    (λ so. next-added self.options self.version self.scalars c.in-Some.unit.now c.args.number c.args.state.now c.args.steps.left c.args.lines.now.items c.list_heading.new.lines.items c.list.new.lines.items c.in_ok-list_heading.ensures own c.args.units.now c.in-Some.later.now split
    c.run_nest.new.state c.run_nest.new.steps.left c.run_nest.result ran (c.args.number + 1) c.list-in-Ended.new.lines.items c.in-Ended.is next so)
    c.list-in-Ended.ensures

pub returns : goal.returns
returns t c =
    let split : c.args.units.now ≡ c.in-Some.unit.now ∷ c.in-Some.later.now = c.in-Some.ensures.cases.0 in
    let self = c.args.self in
    let own : Adds (AreNestLines self.options self.scalars c.in-Some.unit.now c.args.state.now c.args.steps.left) c.list_heading.new.lines.items c.list.new.lines.items =
    subst (λ (s : Store). Adds (AreNestLines self.options self.scalars c.in-Some.unit.now s c.args.steps.left) c.list_heading.new.lines.items c.list.new.lines.items) c.in_ok-profiled.ensures c.in_ok-list.ensures in
    let ran : RunIs c.run_nest.new.state c.run_nest.new.steps.left (finish_of_ending c.run_nest.result) (run_of_nest c.in-Some.unit.now c.args.state.now c.args.steps.left) =
    run-is (nest_trace (c.args.steps.left + 1) c.in-Some.unit.now.nest.loops c.args.state.now) c.args.state.now c.run_nest.new.state c.args.steps.left c.args.steps.used c.run_nest.new.steps.left c.run_nest.new.steps.used (finish_of_ending c.run_nest.result) (c.run_nest.ensures.ran (c.args.steps.left + 1) (omega arith)) in
    stopped-added self.options self.version self.scalars c.in-Some.unit.now c.args.number c.args.state.now c.args.steps.left c.args.lines.now.items c.list_heading.new.lines.items c.list.new.lines.items c.in_ok-list_heading.ensures own c.args.units.now c.in-Some.later.now split
    c.run_nest.new.state c.run_nest.new.steps.left c.run_nest.result ran c.in_default-run_nest.not-Ended
