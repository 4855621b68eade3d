use Rattle.profile.specs.Data.{samples_at, widest}
use Rattle.profile.proofs.EndLaws.{missed-end, missed-why}
use Rattle.profile.proofs.site.Site.end.Goals as goal

pub returns-in-Missed : goal.returns-in-Missed
returns-in-Missed g c observations h =
    let s = c.args.self in
    missed-end g.row.D observations s.rank s.block c.args.what c.missed.result
    (missed-why g.row.D observations s.rank s.block (widest c.args.what) (samples_at g.row.D observations s.block c.args.what) c.args.why c.in-Missed.miss c.missed.result c.in-Missed.is c.missed.ensures h)
