use Rattle.std.proofs.Common.{map, refl, string_bytes}
use Rattle.nest_top.specs.Runs.{Over}
use Rattle.nest_top.proofs.RunLaws.{alone-none, answer-alone, reason-alone, run-put}
use Rattle.nest_top.proofs.alone.nest_alone.Goals as goal

pub returns-in-Ok-Some : goal.returns-in-Ok-Some
returns-in-Ok-Some g c =
    let words = map string_bytes c.args.words.now in
    let made = answer-alone words _ c.prepare.result c.in-Ok-Some.field-0 c.in-Ok-Some.answer c.in-Ok-Some.is c.in-Ok-Some.field-0-is c.prepare.ensures in
    let text = made.0.0 in
    record {
      run = (text, made.0.1, run-put words text _ _ c.in-Ok-Some.answer.bytes.items c.in-Ok-Some.answer.status c.put.result made.0.2 c.put.ensures);
      none = λ e. absurd (cc);
      journey = λ asks. absurd (made.1 asks);
    }

pub returns-in-Err : goal.returns-in-Err
returns-in-Err g c =
    let words = map string_bytes c.args.words.now in
    let source : Over g.row.S.Denot = record { bytes = g.S.Source.left; faults = g.S.Source.faults; before = c.args.source.now; after = c.prepare.new.source } in
    let sink : Over g.row.K.Denot = record { bytes = g.K.Sink.held; faults = g.K.Sink.faults; before = c.args.sink.now; after = c.args.sink.now } in
    alone-none words source sink c.in-Err.why c.status.result c.status.ensures (reason-alone words source c.prepare.result c.in-Err.why c.in-Err.is c.prepare.ensures) refl
