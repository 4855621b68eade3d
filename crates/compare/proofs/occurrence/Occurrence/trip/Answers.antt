use Rattle.std.proofs.Common.{◌≡◌, ap, ◌∙◌, ℕ, ◌-◌, min, length, take, to_z, of_z, rules}
use Rattle.std.specs.Int.{w128}
use Rattle.compare.proofs.OccurringLaws.{trip-wanted, take-least}
use Rattle.compare.proofs.occurrence.Occurrence.trip.Goals as goal

pub returns : goal.returns
returns g c inner =
    let same : to_z w128 (of_z w128 c.unwrap_or.result) ≡ c.unwrap_or.result = search rules in
    let first : take c.min.result c.args.self.now.counters.now ≡ take (c.args.self.now.block.level - 1) c.args.self.now.counters.now =
    ap (λ (n : ℕ). take n c.args.self.now.counters.now) (c.min.ensures ∙ ap (λ (n : ℕ). min n (length c.args.self.now.counters.now)) c.saturating_sub-loops.ensures) ∙ take-least (c.args.self.now.block.level - 1) c.args.self.now.counters.now in
    same ∙ c.unwrap_or.ensures
    ∙ trip-wanted _ _ c.args.task.now.pred.now _ c.requires.shape c.requires.next.table c.args.self.now.block.level c.args.self.now.counters.now _ c.instance.result c.expected.result inner first c.instance.ensures c.expected.ensures
