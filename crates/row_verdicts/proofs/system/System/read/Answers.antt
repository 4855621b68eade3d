use Rattle.std.proofs.Common.{◌≤◌, ◌^◌, sym, ◌∙◌, unsigned_abs}
use Rattle.std.proofs.lemmas.List.Elements.{All-rest}
use Rattle.row_verdicts.proofs.system.System.read.Goals as goal

pub rows-requires-clause-small : goal.rows-requires-clause-small
rows-requires-clause-small c =
    let small = rw c.in-Some.is at c.in_ok-numbers.ensures in
    All-rest (λ number. unsigned_abs number ≤ 2 ^ 100) c.in-Some-split_first.first.now c.in-Some-split_first.rest.now c.in-Some.numbers.items (sym c.deref.ensures.value ∙ c.in-Some-split_first.ensures.cases.0) small
