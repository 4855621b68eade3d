use Rattle.line_fit.proofs.ExampleLaws.{fit-examples}
use Rattle.line_fit.proofs.laws.examples.Goals as goal

pub returns : goal.returns
returns c = fit-examples
