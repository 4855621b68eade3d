use Rattle.nest_gen.proofs.AllRead.{text-reads}
use Rattle.nest_gen.proofs.laws.always_reads.Goals as goal

pub returns : goal.returns
returns c = text-reads
