use Rattle.std.proofs.Common.{refl, ◌≤◌, ◌^◌, rules}
use Rattle.controller.specs.declared.stage.Stage.TheVariants.{Profiles, Chunks, Plainly}
use Rattle.controller.proofs.StageLaws.{along-broke, along-by, along-over, along-room, along-start, along-stopped, led-with-none}
use Rattle.controller.proofs.PlainTurnLaws.{if-err}
use Rattle.controller.proofs.nest.run_stages.Goals as goal

pub stages-init : goal.stages-init
stages-init g c = along-start c.args.course.now c.args.machine.now c.args.lines.now.items (g.C.Crew.handed c.args.crew.now) Profiles refl c.requires.placed

pub returns-in-Over-clause-ran : goal.returns-in-Over-clause-ran
returns-in-Over-clause-ran g c =
    along-over c.args.course.now c.args.machine.now c.args.lines.now.items (g.C.Crew.handed c.args.crew.now) c.stages.stage c.stages.machine c.stages.lines.items (g.C.Crew.handed c.stages.crew) c.in-Over.ending c.in-Over.is c.stages.invariant

pub stages-preserved-in_ok-stage-in-Plainly : goal.stages-preserved-in_ok-stage-in-Plainly
stages-preserved-in_ok-stage-in-Plainly g c =
    let handed = g.C.Crew.handed c.stages.crew in
    along-by c.args.course.now c.args.machine.now c.args.lines.now.items (g.C.Crew.handed c.args.crew.now) c.stages.stage (Plainly c.in-Plainly.turns) c.in_ok-stage-in-Plainly.stage c.stages.machine c.plainly.new.machine c.stages.lines.items c.plainly.new.lines.items handed handed
    c.in-Plainly.is c.stages.invariant
    (led-with-none c.args.course.now (Plainly c.in-Plainly.turns) c.stages.machine c.stages.lines.items handed c.in_ok-stage-in-Plainly.stage c.plainly.new.machine c.plainly.new.lines.items c.in_ok-stage-in-Plainly.ensures.led c.plainly.ensures.posts)

pub stages-preserved-in_ok-stage-in-Profiles : goal.stages-preserved-in_ok-stage-in-Profiles
stages-preserved-in_ok-stage-in-Profiles g c =
    let handed = g.C.Crew.handed c.stages.crew in
    along-by c.args.course.now c.args.machine.now c.args.lines.now.items (g.C.Crew.handed c.args.crew.now) c.stages.stage Profiles c.in_ok-stage-in-Profiles.stage c.stages.machine c.profile.new.machine c.stages.lines.items c.profile.new.lines.items handed handed
    c.in-Profiles.is c.stages.invariant
    (led-with-none c.args.course.now Profiles c.stages.machine c.stages.lines.items handed c.in_ok-stage-in-Profiles.stage c.profile.new.machine c.profile.new.lines.items c.in_ok-stage-in-Profiles.ensures.led c.profile.ensures.posts)

pub chunk-requires : goal.chunk-requires
chunk-requires g c =
    let epoch : c.stages.machine.posts.epoch ≤ 2 ^ 62 =
    along-room c.args.course.now c.args.machine.now c.args.lines.now.items (g.C.Crew.handed c.args.crew.now) c.stages.stage c.stages.machine c.stages.lines.items (g.C.Crew.handed c.stages.crew) c.requires.reach c.stages.invariant in
    search rules

pub returns-in_err-stage-in-Plainly-clause-broke : goal.returns-in_err-stage-in-Plainly-clause-broke
returns-in_err-stage-in-Plainly-clause-broke g c =
    if-err (along-stopped c.args.course.now c.args.machine.now c.args.lines.now.items (g.C.Crew.handed c.args.crew.now) c.stages.stage c.stages.machine c.stages.lines.items (g.C.Crew.handed c.stages.crew) c.stages.invariant) _

pub returns-in_err-stage-in-Profiles-clause-broke : goal.returns-in_err-stage-in-Profiles-clause-broke
returns-in_err-stage-in-Profiles-clause-broke g c =
    if-err (along-stopped c.args.course.now c.args.machine.now c.args.lines.now.items (g.C.Crew.handed c.args.crew.now) c.stages.stage c.stages.machine c.stages.lines.items (g.C.Crew.handed c.stages.crew) c.stages.invariant) _

pub returns-in_err-stage-in-Chunks-clause-broke : goal.returns-in_err-stage-in-Chunks-clause-broke
returns-in_err-stage-in-Chunks-clause-broke g c =
    if-err (along-broke c.args.course.now c.args.machine.now c.args.lines.now.items (g.C.Crew.handed c.args.crew.now) c.stages.stage (Chunks c.in-Chunks.chosen) c.stages.machine c.stages.lines.items (g.C.Crew.handed c.stages.crew) (g.C.Crew.handed c.chunk.new.crew)
    c.in-Chunks.is c.stages.invariant c.in_err-stage-in-Chunks.ensures.broke) _

pub stages-preserved : goal.stages-preserved
stages-preserved g c =
    along-by c.args.course.now c.args.machine.now c.args.lines.now.items (g.C.Crew.handed c.args.crew.now) c.stages.stage (Chunks c.in-Chunks.chosen) c.in_ok-stage-in-Chunks.stage c.stages.machine c.chunk.new.machine c.stages.lines.items c.chunk.new.lines.items
    (g.C.Crew.handed c.stages.crew) (g.C.Crew.handed c.chunk.new.crew) c.in-Chunks.is c.stages.invariant c.in_ok-stage-in-Chunks.ensures.led
