use Rattle.std.proofs.Common.{◌≡◌, ap, sym, subst, ◌∙◌, ℕ, ◌++◌, List, length, arith}
use Rattle.std.specs.List.{flat_map, range_with_len}
use Rattle.transform.specs.Scripts.{schedule_of}
use Rattle.report.specs.declared.line.ListingLine.{ListingLine}
use Rattle.listing.specs.Lists.{judgement_at}
use Rattle.listing.proofs.GrowingListLaws.{ranged-more}
use Rattle.listing.proofs.CandidateLaws.{own-judged}
use Rattle.listing.proofs.fitted.Fitted.list_own.Goals as goal

pub returns : goal.returns
returns g c =
    let self = c.args.self.now in
    let n : c.loop-place.place ≡ length c.args.scripts.now = omega arith in
    subst (λ (k : ℕ). c.loop-place.lines.items ≡ c.args.lines.now.items ++ flat_map (judgement_at self.nest.now.loops self.pred.now self.length c.args.scripts.now) (range_with_len 0 k)) n c.loop-place.invariant

pub loop-place-preserved : goal.loop-place-preserved
loop-place-preserved g c =
    let self = c.args.self.now in
    let script = c.index-scripts-place.result in
    ranged-more (judgement_at self.nest.now.loops self.pred.now self.length c.args.scripts.now) 0 c.loop-place.place c.loop-place.place c.args.lines.now.items c.loop-place.lines.items c.list_judgement.new.lines.items (omega arith) c.loop-place.invariant
    (c.in_ok-list_judgement.ensures
    ∙ ap (λ (ls : List ListingLine). c.loop-place.lines.items ++ ls)
    (own-judged self.nest.now.loops self.pred.now self.length g.row.D c.requires.of.depth c.args.scripts.now c.loop-place.place script script c.schedule_of-schedule.result c.loop-place-test.true (sym c.index-scripts-place.is) (c.schedule_of-schedule.ensures ∙ ap (schedule_of g.row.D) c.as_slice.ensures)))
