use Rattle.nest_top.proofs.FileNumberLaws.{are-i64s}
use Rattle.nest_top.proofs.laws.files_are_of_i64s.Goals as goal

pub returns : goal.returns
returns c = λ text file reads. are-i64s file (text, reads)
