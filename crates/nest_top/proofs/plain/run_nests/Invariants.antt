use Rattle.nest_grammar.specs.Files.{nests_of}
use Rattle.nest_top.proofs.PlainLaws.{Left}
use Rattle.nest_top.proofs.plain.run_nests.Given as goal

abbrev pub invariant-nests : goal.invariant-nests
invariant-nests l = Left (nests_of l.file) l.number l.fn.state l.state l.fn.steps.left l.fn.steps.used l.steps.left l.steps.used
