use Rattle.profile.proofs.EndLaws.{unfit-at}
use Rattle.profile.proofs.site.Site.fit.Goals as goal

pub returns-in-Err : goal.returns-in-Err
returns-in-Err g c =
    c.end.ensures c.args.samples.now
    (unfit-at g.row.D c.args.samples.now c.args.self.rank c.args.self.block c.args.what c.shown_as.result c.widest.result c.in-Err.why c.shown_as.ensures c.widest.ensures c.in-Err.ensures)
