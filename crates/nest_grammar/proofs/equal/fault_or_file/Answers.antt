use Rattle.nest_grammar.proofs.equal.fault_or_file.Goals as goal
use Rattle.nest_grammar.proofs.GrammarLaws.{fault-or-file}

-- src/equal.rt:20:1
pub returns : goal.returns
returns c = fault-or-file
