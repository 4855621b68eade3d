use Rattle.std.proofs.Common.{◌≡◌, ap, ap₂, subst, ◌∙◌, ℕ, ◌+◌, ◌++◌, List, Option, arith, rules}
use Rattle.std.specs.List.{flat_map, range_with_len}
use Rattle.transform.specs.Schedules.{Schedule}
use Rattle.report.specs.declared.line.ListingLine.{ListingLine}
use Rattle.listing.specs.Lists.{judged_if_any}
use Rattle.listing.proofs.GrowingListLaws.{ranged-more}
use Rattle.listing.proofs.CandidateLaws.{standard-judged, standard_at}
use Rattle.listing.proofs.fitted.Fitted.list_standard.Goals as goal

pub returns : goal.returns
returns g c =
    let self = c.args.self.now in
    let n : c.loop-place.place ≡ 5 = omega arith in
    subst (λ (k : ℕ). c.loop-place.lines.items ≡ c.args.lines.now.items ++ flat_map (standard_at self.nest.now.loops self.pred.now self.length g.row.D) (range_with_len 0 k)) n c.loop-place.invariant
    ∙ ap (λ (ls : List ListingLine). c.args.lines.now.items ++ ls) (standard-judged self.nest.now.loops self.pred.now self.length g.row.D c.requires.of.depth)

pub loop-place-preserved : goal.loop-place-preserved
loop-place-preserved g c =
    let self = c.args.self.now in
    let number : c.from.result ≡ c.loop-place.place = search rules in
    ranged-more (standard_at self.nest.now.loops self.pred.now self.length g.row.D) 0 c.loop-place.place c.loop-place.place c.args.lines.now.items c.loop-place.lines.items c.list_judgement.new.lines.items (omega arith) c.loop-place.invariant
    (c.in_ok-list_judgement.ensures
    ∙ ap₂ (λ (n : ℕ) (o : Option Schedule). c.loop-place.lines.items ++ judged_if_any self.nest.now.loops self.pred.now self.length (n + 1) o) number c.standard-schedule.ensures)
