use Rattle.profile.specs.Parts.{AreScalarFits}
use Rattle.profile.proofs.site.Site.scalars.Given as goal

abbrev pub invariant-loop-number : goal.invariant-loop-number
invariant-loop-number g l = AreScalarFits g.row.D l.samples l.self.block l.number l.forms.items
