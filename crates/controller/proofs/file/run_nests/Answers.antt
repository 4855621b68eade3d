use Rattle.std.proofs.Common.{◌≡◌, ◌∙◌, ◌<◌, ◌≤◌, ap, sym, option_map, Some, length, arith}
use Rattle.std.specs.Prelude.{slice_get}
use Rattle.std.proofs.lemmas.List.{length-map}
use Rattle.nest_grammar.specs.declared.file.NestUnit.{NestUnit}
use Rattle.nest_grammar.specs.Files.{nests_of}
use Rattle.controller.proofs.NestLaws.{heading-at, is-unit, nested-broke, nested-end, nested-next, nested-out, nested-room, nested-start, nested-stopped, nests-few, unit-at}
use Rattle.controller.proofs.PlainTurnLaws.{if-err}
use Rattle.controller.proofs.file.run_nests.Goals as goal

pub nests-init : goal.nests-init
nests-init g c = nested-start c.args.options.now c.args.file.now c.args.machine.now c.args.lines.now.items (g.C.Crew.handed c.args.crew.now) c.requires.count c.requires.fits

pub overflow_cast-number : goal.overflow_cast-number
overflow_cast-number g c =
    let few = nests-few c.args.file.now c.requires.text in
    let end = c.nests-number-end.ensures in
    let here = c.nests-test.true in
    omega (arith, few, end, here)

pub overflow_add-number : goal.overflow_add-number
overflow_add-number g c =
    let few = nests-few c.args.file.now c.requires.text in
    let end = c.nests-number-end.ensures in
    let here = c.nests-test.true in
    omega (arith, few, end, here)

pub run_nest-requires-clause-unit : goal.run_nest-requires-clause-unit
run_nest-requires-clause-unit g c κs within =
    let here : slice_get (nests_of c.args.file.now) c.nests.number ≡ Some c.in-Some.nest.now = sym c.nest.ensures.nest ∙ ap (option_map (λ n. n.now)) c.in-Some.is in
    is-unit c.args.file.now c.nests.number c.in-Some.nest.now c.args.options.now c.requires.text here c.in-Some.ensures.rules c.requires.sample_from c.requires.sample_to c.requires.chunk_from c.requires.chunk_to

pub run_nest-requires-clause-reach : goal.run_nest-requires-clause-reach
run_nest-requires-clause-reach g c κs within =
    let file = c.args.file.now in
    let same = length-map file.units (λ (u : NestUnit). u.nest) in
    let few = nests-few file c.requires.text in
    let end = c.nests-number-end.ensures in
    let here = c.nests-test.true in
    let some : c.nests.number < length file.units = omega (arith, same, end, here) in
    let most : length file.units ≤ 8 = omega (arith, same, few) in
    nested-room c.args.options.now file c.args.machine.now c.nests.machine c.nests.machine c.args.lines.now.items c.nests.lines.items (g.C.Crew.handed c.args.crew.now) (g.C.Crew.handed c.nests.crew) c.nests.number c.nests.invariant some most c.requires.reach

pub returns-in_err-push_heading-clause-broke : goal.returns-in_err-push_heading-clause-broke
returns-in_err-push_heading-clause-broke g c =
    if-err (nested-stopped c.args.options.now c.args.file.now c.args.machine.now c.nests.machine c.nests.machine c.args.lines.now.items c.nests.lines.items (g.C.Crew.handed c.args.crew.now) (g.C.Crew.handed c.nests.crew) c.nests.number c.nests.invariant) _

pub returns-in_err-ending-clause-broke : goal.returns-in_err-ending-clause-broke
returns-in_err-ending-clause-broke g c =
    let file = c.args.file.now in
    let here : slice_get (nests_of file) c.nests.number ≡ Some c.in-Some.nest.now = sym c.nest.ensures.nest ∙ ap (option_map (λ n. n.now)) c.in-Some.is in
    let unit = unit-at file c.nests.number c.in-Some.nest.now here in
    if-err (nested-broke c.args.options.now file c.args.machine.now c.nests.machine c.nests.machine c.args.lines.now.items c.nests.lines.items (g.C.Crew.handed c.args.crew.now) (g.C.Crew.handed c.nests.crew) c.nests.number c.nests.invariant unit.0 unit.1
    (g.C.Crew.handed c.run_nest.new.crew) c.in_err-ending.ensures.broke) _

pub nests-preserved : goal.nests-preserved
nests-preserved g c =
    let file = c.args.file.now in
    let here : slice_get (nests_of file) c.nests.number ≡ Some c.in-Some.nest.now = sym c.nest.ensures.nest ∙ ap (option_map (λ n. n.now)) c.in-Some.is in
    let unit = unit-at file c.nests.number c.in-Some.nest.now here in
    let headed = heading-at c.args.version file.version c.nests.number c.nests.lines.items c.push_heading.new.lines.items c.in_ok-push_heading.ensures c.requires.version in
    nested-next c.args.options.now file c.args.machine.now c.nests.machine c.run_nest.new.machine c.args.lines.now.items c.nests.lines.items (g.C.Crew.handed c.args.crew.now) (g.C.Crew.handed c.nests.crew) c.nests.number c.nests.invariant unit.0 unit.1
    c.push_heading.new.lines.items headed c.run_nest.new.lines.items (g.C.Crew.handed c.run_nest.new.crew) c.in_ok-ending.ending c.in-Ended.is c.in_ok-ending.ensures.ran

pub returns-in_default-2-clause-ran : goal.returns-in_default-2-clause-ran
returns-in_default-2-clause-ran g c =
    let file = c.args.file.now in
    let here : slice_get (nests_of file) c.nests.number ≡ Some c.in-Some.nest.now = sym c.nest.ensures.nest ∙ ap (option_map (λ n. n.now)) c.in-Some.is in
    let unit = unit-at file c.nests.number c.in-Some.nest.now here in
    let headed = heading-at c.args.version file.version c.nests.number c.nests.lines.items c.push_heading.new.lines.items c.in_ok-push_heading.ensures c.requires.version in
    nested-out c.args.options.now file c.args.machine.now c.nests.machine c.run_nest.new.machine c.args.lines.now.items c.nests.lines.items (g.C.Crew.handed c.args.crew.now) (g.C.Crew.handed c.nests.crew) c.nests.number c.nests.invariant unit.0 unit.1
    c.push_heading.new.lines.items headed c.run_nest.new.lines.items (g.C.Crew.handed c.run_nest.new.crew) c.in_ok-ending.ending c.in_default-2.not-Ended c.in_ok-ending.ensures.ran

pub returns-clause-ran : goal.returns-clause-ran
returns-clause-ran g c =
    let file = c.args.file.now in
    let same = length-map file.units (λ (u : NestUnit). u.nest) in
    let end = c.nests-number-end.ensures in
    let past = c.nests-test.false in
    let all : length file.units ≤ c.nests.number = omega (arith, same, end, past) in
    nested-end c.args.options.now file c.args.machine.now c.nests.machine c.nests.machine c.args.lines.now.items c.nests.lines.items (g.C.Crew.handed c.args.crew.now) (g.C.Crew.handed c.nests.crew) c.nests.number c.nests.invariant all
