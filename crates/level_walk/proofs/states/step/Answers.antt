use Rattle.std.proofs.Common.{rules}
use Rattle.level_walk.proofs.states.step.Goals as goal

pub returns-else-not-advance-clause-stands : goal.returns-else-not-advance-clause-stands
returns-else-not-advance-clause-stands c = c.advance.ensures.stands (search rules) _ c.requires.stands
