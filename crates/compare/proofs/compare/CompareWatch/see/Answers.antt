use Rattle.std.proofs.Common.{◌≡◌, sym, ◌∙◌, subst, ℤ, to_z, of_z, rules}
use Rattle.std.specs.Int.{w128}
use Rattle.compare.specs.Differences.{difference}
use Rattle.block_exec.specs.Watches.{observed}
use Rattle.follow_chunk.specs.Tasks.{task_of}
use Rattle.compare.specs.Comparisons.{Comparison, looked, found_of}
use Rattle.std.specs.Prelude.{option_map}
use Rattle.compare.proofs.ClosingLaws.{now-looked}
use Rattle.compare.proofs.compare.CompareWatch.see.Goals as goal

pub returns : goal.returns
returns g c of_turns =
    let same : to_z w128 (of_z w128 c.args.value) ≡ c.args.value = search rules in
    let differs = subst (λ (v : ℤ). c.difference-how.result ≡ difference c.self.inside.task.pred.now (observed c.args.block c.args.counters.now c.args.what v)) same (c.difference-how.ensures of_turns) in
    subst (λ (z : Comparison). ◌≡◌ {A = Comparison} (record { table = c.self.inside.task.pred.now; chunk = c.self.inside.task.chunk; at = c.instance-at.result; first = option_map found_of c.deviation-self-inside.result }) (looked z (observed c.args.block c.args.counters.now c.args.what c.args.value)))
    c.self.view_is
    (now-looked _ (task_of c.self.inside.task) c.self.invariant c.self.inside.at c.self.inside.first (observed c.args.block c.args.counters.now c.args.what c.args.value) c.instance-at.result c.difference-how.result c.deviation-self-inside.result
    (sym c.is_some.ensures ∙ c.if-is_some.false) c.instance-at.ensures differs c.deviation-self-inside.ensures)
