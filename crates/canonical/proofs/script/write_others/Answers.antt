use Rattle.canonical.specs.Scripts.{next_command}
use Rattle.canonical.proofs.PieceLaws.{text-more}
use Rattle.canonical.proofs.script.write_others.Goals as goal

pub loop-command-preserved : goal.loop-command-preserved
loop-command-preserved c = text-more next_command c.args.commands.now c.loop-command.command-index c.command-item.result _ _ _ c.loop-command-test.true c.command-item.is c.loop-command.invariant c.in_ok-write_next.ensures
