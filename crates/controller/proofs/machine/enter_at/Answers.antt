use Rattle.std.proofs.Common.{◌≡◌, rules}
use Rattle.controller.proofs.EntryLaws.{entry-answer}
use Rattle.controller.proofs.machine.enter_at.Goals as goal

pub returns-in-At-clause-entered : goal.returns-in-At-clause-entered
returns-in-At-clause-entered c =
    let from : c.new-port.result.main.now ≡ c.args.main.now = search rules in
    rw from at (entry-answer _ c.args.nest.now.loops _ _ _ c.in-At.ensures.entry)

pub returns-in-Trapped-clause-entered : goal.returns-in-Trapped-clause-entered
returns-in-Trapped-clause-entered c =
    let from : c.new-port.result.main.now ≡ c.args.main.now = search rules in
    rw from at (entry-answer _ c.args.nest.now.loops _ _ _ c.in-Trapped.ensures.entry)

pub returns-in-Limited-clause-entered : goal.returns-in-Limited-clause-entered
returns-in-Limited-clause-entered c =
    let from : c.new-port.result.main.now ≡ c.args.main.now = search rules in
    rw from at (entry-answer _ c.args.nest.now.loops _ _ _ c.in-Limited.ensures.entry)
