use Rattle.plain_interp.proofs.NestLaws.{no-codes}
use Rattle.plain_interp.proofs.loops.Level.inner_codes.Goals as goal

pub returns-in-None : goal.returns-in-None
returns-in-None c = no-codes c.args.self.now.rest.now
