use Rattle.std.proofs.Common.{List, [], ◌∷◌, ◌++◌, ap, ◌∙◌, arith}
use mir.Syntax.{named}
use denote.Exit.{no}
use denote.Param.{param, number}
use Rattle.crew.specs.Jobs.{total}
use Rattle.verified_turns.specs.Workers.{Status, origin_of}
use Rattle.std.proofs.Math.Facts.{to_z-of_z}
use Rattle.crew.proofs.TotalLaws.{ran-back, tiles-first}
use Rattle.crew.proofs.CrossingLaws.{job-send}
use Rattle.crew.proofs.handed.Crew.work.Goals as goal

pub returns-clause-ran : goal.returns-clause-ran
returns-clause-ran g c = ran-back (λ (w : Status _). origin_of w) (λ (w : Status _). w.left) c.args.jobs.now.items c.as_mut_slice.result.now c.run.new.jobs c.args.jobs.now.len c.as_mut_slice.ensures.len c.as_mut_slice.ensures.value c.run.ensures

pub returns-clause-handed : goal.returns-clause-handed
returns-clause-handed g c =
    let first = to_z-of_z c.ranges.first in
    let workers = c.len-workers.ensures in
    let some = c.requires.some in
    let ok = c.args.jobs.now.ok.0 in
    let tiles = c.tiles-tiles.ensures ∙ tiles-first c.args.jobs.now.items c.index.result.now (omega (arith, some, ok)) c.index.ensures in
    let steps = c.total_steps-steps.ensures ∙ ap (λ (xs : List (Status _)). total (λ (w : Status _). w.steps) xs) c.as_slice.ensures.value in
    c.note.ensures.handed ∙ (λ i. g.Self.Crew.handed c.args.self.now ++ record { first = first i; phase = c.args.phase; workers = workers i; tiles = tiles i; steps = steps i } ∷ [])

pub run-requires-send-J : goal.run-requires-send-J
run-requires-send-J g c κs within =
    let sent = job-send 2 no (record { mir = named 5; lft = κs.1.1.1.1.1.0 }) _ (param 4 (number g.row.D)) g.W.Walk c.type_bounds.send-W in
    record { owned = sent.owned; leaving = sent.leaving }
