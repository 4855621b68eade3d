use Rattle.std.proofs.Common.{◌≡◌, rules}
use Rattle.profile.proofs.EntryLaws.{entry-position}
use Rattle.profile.proofs.first_turns.start_of.Goals as goal

pub returns-in-At-clause-position : goal.returns-in-At-clause-position
returns-in-At-clause-position c =
    let from : c.new-port.result.memory.now ≡ c.args.memory.now = search rules in
    rw from at (entry-position _ c.args.nest.now.loops _ _ _ c.in-At.ensures.entry)

pub returns-in-Trapped : goal.returns-in-Trapped
returns-in-Trapped c =
    let from : c.new-port.result.memory.now ≡ c.args.memory.now = search rules in
    record {
      position = rw from at (entry-position _ c.args.nest.now.loops _ _ _ c.in-Trapped.ensures.entry);
      steps = search rules;
      placed = search rules;
      memory = search rules;
      scalars = search rules;
    }

pub returns-in-Limited : goal.returns-in-Limited
returns-in-Limited c =
    let from : c.new-port.result.memory.now ≡ c.args.memory.now = search rules in
    record {
      position = rw from at (entry-position _ c.args.nest.now.loops _ _ _ c.in-Limited.ensures.entry);
      steps = search rules;
      placed = search rules;
      memory = search rules;
      scalars = search rules;
    }
