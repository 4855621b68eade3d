use Rattle.plain_interp.proofs.NestLaws.{no-codes}
use Rattle.plain_interp.proofs.plain.run_nest.Goals as goal

pub run_words-requires-clause-codes : goal.run_words-requires-clause-codes
run_words-requires-clause-codes c = no-codes c.args.nest.now.loops
