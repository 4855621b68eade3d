use Rattle.std.proofs.Common.{◌≡◌, ◌<◌, ◌+◌, FitsSigned, Some, [], false, true, arith, rules, to_z-of_z, w64}
use Rattle.nest_lang.specs.Stores.{store_of}
use Rattle.profile.specs.FirstProfiles.{goes_on}
use Rattle.profile.proofs.ProfileLaws.{run_of, short-profile, whole-profile}
use Rattle.profile.proofs.first_turns.profile_from.Goals as goal

pub returns-then-not-goes_on : goal.returns-then-not-goes_on
returns-then-not-goes_on c =
    let from : c.new-port.result.memory.now ≡ c.args.memory.now = search rules in
    let enough : c.args.start.steps.left < c.args.start.steps.left + 1 = omega arith in
    let ran = rw from at (c.run_turns-turned.ensures.ran (c.args.start.steps.left + 1) enough).cut in
    let whole = rw from at (c.run_turns-turned.ensures.outer.2 (c.args.start.steps.left + 1) enough) in
    let run = run_of c.args.nest.now.loops c.args.turns _ _ c.args.start.steps.left _ _ _ c.args.start.outer c.run_turns-turned.new.outer c.run_turns-turned.result _ ran c.run_turns-turned.ensures.outer.1 whole in
    let off : goes_on c.run_turns-turned.result c.run_turns-turned.new.outer.left ≡ false = search rules in
    let fits : FitsSigned w64 c.run_turns-turned.new.outer.next = search rules in
    simp to_z-of_z (short-profile c.args.nest.now.loops c.args.turns (store_of c.args.memory.now c.args.scalars.now []) c.args.start.steps.left c.args.start.outer c.run_turns-turned.new.outer c.run_turns-turned.result c.requires.first run off)

pub returns : goal.returns
returns c =
    let from : c.new-port.result.memory.now ≡ c.args.memory.now = search rules in
    let enough : c.args.start.steps.left < c.args.start.steps.left + 1 = omega arith in
    let ran = rw from at (c.run_turns-turned.ensures.ran (c.args.start.steps.left + 1) enough).cut in
    let shown = rw from at (c.run_turns-turned.ensures.ran (c.args.start.steps.left + 1) enough).shown in
    let whole = rw from at (c.run_turns-turned.ensures.outer.2 (c.args.start.steps.left + 1) enough) in
    let run = run_of c.args.nest.now.loops c.args.turns _ _ c.args.start.steps.left _ _ _ c.args.start.outer c.run_turns-turned.new.outer c.run_turns-turned.result _ ran c.run_turns-turned.ensures.outer.1 whole in
    let on : goes_on c.run_turns-turned.result c.run_turns-turned.new.outer.left ≡ true = search rules in
    let begun : c.new-watch.result ≡ Some [] = search rules in
    let kept : c.run_turns-turned.new.run.watch.now ≡ Some c.in_ok-finish.field-0 = search rules in
    whole-profile c.args.nest.now.loops c.args.turns (store_of c.args.memory.now c.args.scalars.now []) c.args.start.steps.left c.args.start.outer c.run_turns-turned.new.outer c.run_turns-turned.result c.in_ok-finish.field-0 run on (rw (begun, kept) at shown)
