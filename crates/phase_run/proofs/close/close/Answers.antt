use Rattle.std.proofs.Common.{◌∙◌, ◌<◌, vec_len, arith}
use Rattle.follow_chunk.specs.Tasks.{task_of}
use Rattle.phase_run.proofs.ClosingLaws.{ran-together, ran-broken, others_keep}
use Rattle.phase_run.proofs.close.close.Goals as goal

pub returns-then-settle-clause-ran : goal.returns-then-settle-clause-ran
returns-then-settle-clause-ran g c =
    let t = c.args.task.now in
    let k = task_of t in
    let taken = c.take_back-steps.ensures in
    let settled = c.settle.ensures in
    let count = c.requires.count in
    let asked = c.requires.postable.some in
    let some : 0 < vec_len c.args.workers.now = omega (arith, count, asked) in
    ran-broken {D = g.row.D} k c.args.posting.now c.args.main.now.view.base c.take_back-steps.new.main.view c.settle.new.self.view taken.base (taken.plan ∙ c.requires.posted.plan) c.requires.postable settled.view
    (vec_len c.args.workers.now) c.take_back-steps.result c.settle.result c.if-settle.true some taken.gathered settled.step

pub returns-then-settle-clause-others : goal.returns-then-settle-clause-others
returns-then-settle-clause-others g c =
    let t = c.args.task.now in
    let k = task_of t in
    let taken = c.take_back-steps.ensures in
    others_keep {D = g.row.D} k c.args.posting.now c.args.main.now.view.base c.take_back-steps.new.main.view c.settle.new.self.view taken.base (taken.plan ∙ c.requires.posted.plan) c.requires.postable c.settle.ensures.view taken.owned

pub returns-clause-ran : goal.returns-clause-ran
returns-clause-ran g c =
    let t = c.args.task.now in
    let k = task_of t in
    let taken = c.take_back-steps.ensures in
    let settled = c.settle.ensures in
    let count = c.requires.count in
    let asked = c.requires.postable.some in
    let some : 0 < vec_len c.args.workers.now = omega (arith, count, asked) in
    ran-together {D = g.row.D} k c.args.posting.now c.args.main.now.view.base c.take_back-steps.new.main.view c.settle.new.self.view taken.base (taken.plan ∙ c.requires.posted.plan) c.requires.postable settled.view
    (vec_len c.args.workers.now) c.take_back-steps.result c.settle.result c.if-settle.false some taken.gathered settled.step

pub returns-clause-others : goal.returns-clause-others
returns-clause-others g c =
    let t = c.args.task.now in
    let k = task_of t in
    let taken = c.take_back-steps.ensures in
    others_keep {D = g.row.D} k c.args.posting.now c.args.main.now.view.base c.take_back-steps.new.main.view c.settle.new.self.view taken.base (taken.plan ∙ c.requires.posted.plan) c.requires.postable c.settle.ensures.view taken.owned
