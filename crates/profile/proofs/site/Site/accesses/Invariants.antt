use Rattle.std.proofs.Common.{take}
use Rattle.profile.specs.Parts.{AreAccessFits}
use Rattle.profile.proofs.site.Site.accesses.Given as goal

abbrev pub invariant-loop-before : goal.invariant-loop-before
invariant-loop-before g l = AreAccessFits g.row.D l.samples l.self.block (take l.before l.accesses) l.forms.items
