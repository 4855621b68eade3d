use Rattle.std.proofs.Common.{sym, ◌∙◌, ap, subst, ℕ, length, pos, arith, rules}
use Rattle.nest_lang.specs.Lookups.{Expectation}
use Rattle.domain.specs.Instances.{Instance, Predicted}
use Rattle.follow_chunk.specs.declared.task.Followed.{Followed}
use Rattle.follow_chunk.specs.Tasks.{task_of, IsTask}
use Rattle.follow_chunk.specs.Followed.{FirstDeviates, IsInstanceFollowed}
use Rattle.follow_chunk.proofs.WholeInstanceLaws.{follows-few}
use Rattle.follow_chunk.proofs.ListingLaws.{all-at, next-follows, list-none, list-first, long-after}
use Rattle.follow_chunk.proofs.list.follow_list.Goals as goal

pub follow_instance-requires : goal.follow_instance-requires
follow_instance-requires g c =
    let self = c.args.task.now in
    let k = c.loop-inst.inst-index in
    let x = c.inst-item.result in
    let w = g.P.Port.memory c.loop-inst.port in
    let inv = c.loop-inst.invariant in
    let inside = c.loop-inst-test.true in
    let here = subst (Predicted self.pred.now self.chunk) (sym c.inst-item.is) (all-at (Predicted self.pred.now self.chunk) c.args.list.now k x c.requires.predicted inside) in
    let task : IsTask g.row.D (task_of self) (pos (length w)) = subst (λ (n : ℕ). IsTask g.row.D (task_of self) (pos n)) (sym inv.size) c.requires.task in
    let plain = ap (λ (e : Expectation). e.verifies) inv.expects ∙ c.requires.plain in
    search rules

pub overflow_add-steps : goal.overflow_add-steps
overflow_add-steps g c =
    let self = c.args.task.now in
    let k = c.loop-inst.inst-index in
    let x = c.inst-item.result in
    let w = g.P.Port.memory c.loop-inst.port in
    let inv = c.loop-inst.invariant in
    let inside = c.loop-inst-test.true in
    let here = subst (Predicted self.pred.now self.chunk) (sym c.inst-item.is) (all-at (Predicted self.pred.now self.chunk) c.args.list.now k x c.requires.predicted inside) in
    let task : IsTask g.row.D (task_of self) (pos (length w)) = subst (λ (n : ℕ). IsTask g.row.D (task_of self) (pos n)) (sym inv.size) c.requires.task in
    let one = subst (λ (r : Followed g.row.D). IsInstanceFollowed (task_of self) x w r (g.P.Port.memory c.follow_instance.new.port)) c.in-Same.is c.follow_instance.ensures.followed in
    let more = follows-few g.row.D (task_of self) (pos (length w)) task x here w (g.P.Port.memory c.follow_instance.new.port) c.in-Same.more one in
    let few = inv.few in
    let short = c.requires.short in
    omega arith

pub loop-inst-preserved : goal.loop-inst-preserved
loop-inst-preserved g c =
    let self = c.args.task.now in
    let k = c.loop-inst.inst-index in
    let x = c.inst-item.result in
    let w = g.P.Port.memory c.loop-inst.port in
    let inv = c.loop-inst.invariant in
    let inside = c.loop-inst-test.true in
    let here = subst (Predicted self.pred.now self.chunk) (sym c.inst-item.is) (all-at (Predicted self.pred.now self.chunk) c.args.list.now k x c.requires.predicted inside) in
    let task : IsTask g.row.D (task_of self) (pos (length w)) = subst (λ (n : ℕ). IsTask g.row.D (task_of self) (pos n)) (sym inv.size) c.requires.task in
    let one = subst (λ (r : Followed g.row.D). IsInstanceFollowed (task_of self) x w r (g.P.Port.memory c.follow_instance.new.port)) c.in-Same.is c.follow_instance.ensures.followed in
    let more = follows-few g.row.D (task_of self) (pos (length w)) task x here w (g.P.Port.memory c.follow_instance.new.port) c.in-Same.more one in
    let few = inv.few in
    record {
      expects = c.follow_instance.ensures.expects ∙ inv.expects;
      basis = c.follow_instance.ensures.basis ∙ inv.basis;
      size = long-after (task_of self) x c.in-Same.more w (g.P.Port.memory c.follow_instance.new.port) one ∙ inv.size;
      few = omega arith;
      follows = next-follows (task_of self) c.args.list.now k x (g.P.Port.memory c.args.port.now) w c.loop-inst.steps inside c.inst-item.is inv.follows (g.P.Port.memory c.follow_instance.new.port) c.in-Same.more one;
    }

pub returns-in-Differs-clause-followed : goal.returns-in-Differs-clause-followed
returns-in-Differs-clause-followed g c =
    let self = c.args.task.now in
    let k = c.loop-inst.inst-index in
    let x = c.inst-item.result in
    let w = g.P.Port.memory c.loop-inst.port in
    let inv = c.loop-inst.invariant in
    let inside = c.loop-inst-test.true in
    let here = subst (Predicted self.pred.now self.chunk) (sym c.inst-item.is) (all-at (Predicted self.pred.now self.chunk) c.args.list.now k x c.requires.predicted inside) in
    let task : IsTask g.row.D (task_of self) (pos (length w)) = subst (λ (n : ℕ). IsTask g.row.D (task_of self) (pos n)) (sym inv.size) c.requires.task in
    let one = subst (λ (r : Followed g.row.D). IsInstanceFollowed (task_of self) x w r (g.P.Port.memory c.follow_instance.new.port)) c.in-Differs.is c.follow_instance.ensures.followed in (
      list-none (task_of self) c.args.list.now k x (g.P.Port.memory c.args.port.now) w c.loop-inst.steps inside c.inst-item.is inv.follows c.in-Differs.deviation.how one.1,
      subst (λ (y : Instance). FirstDeviates (task_of self) c.args.list.now y c.in-Differs.deviation.how (g.P.Port.memory c.args.port.now)) (sym one.0) (list-first (task_of self) c.args.list.now k x (g.P.Port.memory c.args.port.now) w c.loop-inst.steps inside c.inst-item.is inv.follows c.in-Differs.deviation.how one.1),
    )
