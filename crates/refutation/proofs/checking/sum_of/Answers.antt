use Rattle.refutation.proofs.PointLaws.{sum-is}
use Rattle.refutation.proofs.checking.sum_of.Goals as goal

pub returns : goal.returns
returns c = sum-is c.args.rows.now c.args.add.now c.index-rows-add.result c.index-rows-add-2.result c.sum.result c.requires.rows c.index-rows-add.is c.index-rows-add-2.is c.sum.ensures
