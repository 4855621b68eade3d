use Rattle.nest_lang.proofs.BlockExampleLaws.{accesses-computed, blocks-computed}
use Rattle.nest_lang.proofs.ValueExampleLaws.{values-computed}
use Rattle.nest_lang.proofs.RunExampleLaws.{runs-computed}
use Rattle.nest_lang.proofs.laws.examples.Goals as goal

pub returns : goal.returns
returns c = record { values = values-computed; runs = runs-computed; accesses = accesses-computed; blocks = blocks-computed }
