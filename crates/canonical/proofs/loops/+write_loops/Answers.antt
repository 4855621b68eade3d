use Rattle.std.proofs.Common.{ℕ, List, ◌++◌, sym, ap, ◌∙◌, append-nil}
use Rattle.canonical.specs.Labelled.{labels_of}
use Rattle.canonical.proofs.NestedLoopLaws.{loops-empty}
use Rattle.canonical.proofs.loops.+write_loops.Goals as goal

pub returns-in_default : goal.returns-in_default
returns-in_default t c = sym (ap (λ (x : List ℕ). c.args.page.now ++ x) (loops-empty (labels_of c.args.labels.now) c.args.level c.args.loops.now c.in_default.ensures.cases) ∙ append-nil c.args.page.now)
