use Rattle.std.proofs.Common.{◌∙◌, ◌<◌, pos, length, get_or, FitsSigned, w64, rules, arith}
use Rattle.std.proofs.lemmas.Int.{to_z-of_z}
use Rattle.profile.proofs.LogLaws.{turned-begins, kept-begins}
use Rattle.profile.proofs.log.Log.turn_to.Goals as goal
use Rattle.profile.proofs.log.Log.turn_to.Goals.{then-not-holds+in_ok-turn, else-not-holds}

pub loop-place-preserved : goal.loop-place-preserved
loop-place-preserved c =
    let within : c.loop-place.place < length c.args.counters.now = omega arith in
    let fits : FitsSigned w64 (get_or c.args.counters.now c.loop-place.place (pos 0)) = search rules in
    let read = to_z-of_z w64 (get_or c.args.counters.now c.loop-place.place (pos 0)) fits in
    elim c.if-not-holds.branch [
      | then-not-holds+in_ok-turn w ↦ rw w.self-is (record {
        step = w.in_ok-turn.ensures.0;
        same = w.in_ok-turn.ensures.1 ∙ c.loop-place.invariant.same;
        begins = turned-begins c.loop-place.self.counters.items c.args.counters.now w.turn.new.self.counters.items c.loop-place.place _ within c.loop-place.invariant.begins read w.in_ok-turn.ensures.2;
      })
      | else-not-holds w ↦
          let held = rw (c.deref.ensures.value, read) at w.if-not-holds.ensures in
          rw w.self-is (record {
            step = c.loop-place.invariant.step;
            same = c.loop-place.invariant.same;
            begins = kept-begins c.loop-place.self.counters.items c.args.counters.now c.loop-place.place within held.0 c.loop-place.invariant.begins held.1;
          })
    ]
