use Rattle.profile.specs.Parts.{AreBlockFits}
use Rattle.profile.proofs.nest_fit.fit_blocks.Given as goal

abbrev pub invariant-loop-rank : goal.invariant-loop-rank
invariant-loop-rank g l = AreBlockFits g.row.D l.scalars l.nest.loops l.samples l.rank l.blocks.items l.bounds.items
