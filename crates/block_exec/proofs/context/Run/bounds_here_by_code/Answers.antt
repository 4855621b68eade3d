use Rattle.std.proofs.Common.{◌≡◌, ℕ, ◌<◌, FitsSigned, w64, to_z, of_z, rules}
use Rattle.std.proofs.lemmas.Int.{to_z-of_z}
use Rattle.nest_lang.specs.Values.{trip_count}
use Rattle.block_exec.proofs.HeadLaws.{bounds-shown}
use Rattle.block_exec.proofs.TurnLaws.{turn-fits}
use Rattle.block_exec.proofs.context.Run.bounds_here_by_code.Goals as goal

pub returns-clause-watch : goal.returns-clause-watch
returns-clause-watch g c =
    let trip : c.trip_of-trip.result ≡ trip_count c.in_ok-from.from c.in_ok-to.to c.args.stride = search rules in
    let fits : FitsSigned w64 c.in_ok-from.from = search rules in
    let same : to_z w64 (of_z w64 c.in_ok-from.from) ≡ c.in_ok-from.from = to_z-of_z w64 c.in_ok-from.from fits in
    let last = rw same at c.show_bounds.ensures.shown in
    bounds-shown g.P.Port.memory g.P.Port.expects g.P.Port.basis g.W.Watch.may c.args.site.now c.args.self.now c.value_by_code.new.self c.value_by_code-2.new.self.watch.now c.show_bounds.new.self.watch.now c.args.lower.now c.args.upper.now c.args.stride c.in_ok-from.from c.in_ok-to.to c.trip_of-trip.result
    c.in_ok-from.ensures.looked c.in_ok-from.ensures.value c.in_ok-from.ensures.watch c.in_ok-to.ensures.value c.in_ok-to.ensures.watch trip last

pub returns-clause-turns : goal.returns-clause-turns
returns-clause-turns g c =
    let from : FitsSigned w64 c.in_ok-from.from = search rules in
    let to : FitsSigned w64 c.in_ok-to.to = search rules in
    let a : to_z w64 (of_z w64 c.in_ok-from.from) ≡ c.in_ok-from.from = to_z-of_z w64 c.in_ok-from.from from in
    let b : to_z w64 (of_z w64 c.in_ok-to.to) ≡ c.in_ok-to.to = to_z-of_z w64 c.in_ok-to.to to in
    let stride : to_z w64 (of_z w64 c.args.stride) ≡ c.args.stride = to_z-of_z w64 c.args.stride c.ranges.stride in (
      stride,
      λ t h.
          let turn = rw (a, b, stride) at ((c.trip_of-trip.ensures.turns t).0 h) in
          rw (a, stride) (turn-fits c.in_ok-from.from c.in_ok-to.to c.args.stride t from to turn),
    )
