use Rattle.dependence.proofs.ScheduleLaws.{tiles_apart}
use Rattle.dependence.proofs.laws.tiles_apart.Goals as goal

pub returns : goal.returns
returns c = tiles_apart
