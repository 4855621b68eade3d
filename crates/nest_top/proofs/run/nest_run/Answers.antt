use Rattle.std.proofs.Common.{map, string_bytes, subst, sym}
use Rattle.nest_top.specs.Answers.{status_of_unanswered}
use Rattle.nest_top.specs.Calls.{IsCall}
use Rattle.nest_top.specs.declared.status.Status.{Status}
use Rattle.nest_top.proofs.CallLaws.{alone-call, none-call, put-call}
use Rattle.nest_top.proofs.run.nest_run.Goals as goal

pub returns-in-Some : goal.returns-in-Some
returns-in-Some g c = alone-call (map string_bytes c.args.words.now) _ _ (g.C.Crew.handed c.args.crew.now) c.nest_alone.result c.in-Some.status c.in-Some.is c.nest_alone.ensures

pub returns-in-Ok : goal.returns-in-Ok
returns-in-Ok g c =
    let words = map string_bytes c.args.words.now in
    let old = g.C.Crew.handed c.args.crew.now in
    let new = g.C.Crew.handed c.prepare.new.crew in
    let kept = c.nest_alone.ensures.journey (c.nest_alone.ensures.none c.in_default.is) in
    let call = put-call words _ (record { bytes = g.K.Sink.held; faults = g.K.Sink.faults; before = c.nest_alone.new.sink; after = c.put.new.sink }) old new c.prepare.result c.prepare.ensures c.in-Ok.answer c.put.result c.in-Ok.is c.put.ensures in
    subst (λ (k : g.row.K.Denot). IsCall words (record { bytes = g.S.Source.left; faults = g.S.Source.faults; before = c.args.source.now; after = c.prepare.new.source })
    (record { bytes = g.K.Sink.held; faults = g.K.Sink.faults; before = k; after = c.put.new.sink }) old new c.put.result) kept.2
    (subst (λ (s : g.row.S.Denot). IsCall words (record { bytes = g.S.Source.left; faults = g.S.Source.faults; before = s; after = c.prepare.new.source })
    (record { bytes = g.K.Sink.held; faults = g.K.Sink.faults; before = c.nest_alone.new.sink; after = c.put.new.sink }) old new c.put.result) kept.1 call)

pub returns-in-Err : goal.returns-in-Err
returns-in-Err g c =
    let words = map string_bytes c.args.words.now in
    let old = g.C.Crew.handed c.args.crew.now in
    let new = g.C.Crew.handed c.prepare.new.crew in
    let kept = c.nest_alone.ensures.journey (c.nest_alone.ensures.none c.in_default.is) in
    let call = none-call words _ (record { bytes = g.K.Sink.held; faults = g.K.Sink.faults; before = c.args.sink.now; after = c.nest_alone.new.sink }) old new c.prepare.result c.prepare.ensures c.in-Err.why c.in-Err.is kept.2 in
    subst (λ (x : Status). IsCall words (record { bytes = g.S.Source.left; faults = g.S.Source.faults; before = c.args.source.now; after = c.prepare.new.source })
    (record { bytes = g.K.Sink.held; faults = g.K.Sink.faults; before = c.args.sink.now; after = c.nest_alone.new.sink }) old new x) (sym c.status.ensures)
    (subst (λ (s : g.row.S.Denot). IsCall words (record { bytes = g.S.Source.left; faults = g.S.Source.faults; before = s; after = c.prepare.new.source })
    (record { bytes = g.K.Sink.held; faults = g.K.Sink.faults; before = c.args.sink.now; after = c.nest_alone.new.sink }) old new (status_of_unanswered c.in-Err.why)) kept.1 call)
