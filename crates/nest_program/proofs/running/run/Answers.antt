use Rattle.std.proofs.Common.{◌≡◌, subst, map, string_bytes, ℕ, List, []}
use Rattle.crew.specs.declared.handed.Handed.{Handed}
use Rattle.nest_top.specs.Calls.{IsCall}
use Rattle.nest_top.specs.Exits.{exit_code}
use Rattle.nest_top.specs.declared.status.Status.{Status}
use Rattle.nest_program.proofs.running.run.Goals as goal

pub returns : goal.returns
returns g c =
    let words = map string_bytes c.args.words.now in
    let Gives : g.row.R.Denot × ℕ → g.row.W.Denot × ℕ → List Handed → Type 0 =
    λ source sink old. (x : Status) × (c.nest_exit-exit.result ≡ exit_code x) × IsCall words
    (record { bytes = λ (s : g.row.R.Denot × ℕ). g.R.Read.remaining s.0; faults = λ (s : g.row.R.Denot × ℕ). s.1; before = source; after = c.nest_exit-exit.new.source })
    (record { bytes = λ (s : g.row.W.Denot × ℕ). g.W.Write.contents s.0; faults = λ (s : g.row.W.Denot × ℕ). s.1; before = sink; after = c.nest_exit-exit.new.sink })
    old c.nest_exit-exit.new.crew.list.items x in
    let called : Gives c.new-source.result c.new-sink.result c.crew_behind-crew.result.list.items = c.nest_exit-exit.ensures in
    let from_source : Gives (c.args.reader, 0) c.new-sink.result c.crew_behind-crew.result.list.items =
    subst (λ (s : g.row.R.Denot × ℕ). Gives s c.new-sink.result c.crew_behind-crew.result.list.items) c.new-source.ensures called in
    let into_sink : Gives (c.args.reader, 0) (c.args.writer, 0) c.crew_behind-crew.result.list.items =
    subst (λ (k : g.row.W.Denot × ℕ). Gives (c.args.reader, 0) k c.crew_behind-crew.result.list.items) c.new-sink.ensures from_source in
    subst (λ (old : List Handed). Gives (c.args.reader, 0) (c.args.writer, 0) old) c.crew_behind-crew.ensures into_sink
