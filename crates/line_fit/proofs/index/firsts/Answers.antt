use Rattle.std.proofs.Common.{sym, ap, ◌∙◌, not, ◌<◌, length, arith}
use Rattle.line_fit.proofs.IndexLaws.{index-more, index-stays, sample_at-read, copied-none, copied-some}
use Rattle.line_fit.proofs.index.firsts.Goals as goal
use Rattle.line_fit.proofs.index.firsts.Goals.{then-is_none+in_ok-insert, else-is_none}

pub loop-place-preserved : goal.loop-place-preserved
loop-place-preserved g c =
    let within : c.loop-place.place < length c.args.samples.now = omega arith in
    let here = ap (λ s. s.at) (c.sample.view_is ∙ sample_at-read c.args.samples.now c.loop-place.place c.index-samples-place.result within c.index-samples-place.is) in
    elim c.if-is_none.branch [
      | then-is_none+in_ok-insert w ↦
          let none = copied-none c.get.result (c.is_none.ensures ∙ ap not w.if-is_none.true) in
          rw w.index-is (index-more c.args.samples.now c.loop-place.place c.loop-place.index w.insert.new.self c.sample.inside.at c.loop-place.invariant here (sym c.get.ensures.value ∙ none) w.in_ok-insert.ensures.updates.0)
      | else-is_none w ↦
          let some = copied-some c.get.result (c.is_none.ensures ∙ ap not w.if-is_none.false) in
          rw w.index-is (index-stays c.args.samples.now c.loop-place.place some.0 c.loop-place.index c.sample.inside.at c.loop-place.invariant here (sym c.get.ensures.value ∙ some.1))
    ]
