use Rattle.std.proofs.Common.{◌≡◌, refl, ap, ◌∙◌, sym, subst, ℕ, pos, length, lit<, rules}
use Rattle.domain.specs.Instances.{Instance, Predicted}
use Rattle.follow_chunk.specs.Tasks.{task_of, IsTask}
use Rattle.follow_bench.proofs.alone_once.Goals as goal

pub follow_instance-requires : goal.follow_instance-requires
follow_instance-requires c =
    let task = c.args.task.now in
    let from : c.new-port.result.memory.now ≡ c.args.words.now = search rules in
    let size = ap length from ∙ c.requires.words in
    let held = subst (λ (n : ℕ). IsTask 1 (task_of task) (pos n)) (sym size) c.requires.task in
    let p = subst (λ (x : Instance). Predicted task.pred.now task.chunk x) (sym c.first.ensures) c.requires.first in
    (lit< tt, (lit< tt, (lit< tt, (lit< tt, (held, (p, refl))))))
