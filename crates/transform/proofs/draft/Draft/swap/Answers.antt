use Rattle.std.proofs.Common.{◌∙◌, ◌^◌, arith}
use Rattle.std.proofs.lemmas.List.Edits.{length-swap}
use Rattle.transform.proofs.EntryLaws.{EntriesWithin-swap}
use Rattle.transform.proofs.draft.Draft.swap.Goals as goal

pub invariant_of-self : goal.invariant_of-self
invariant_of-self g c =
    let kept = c.self.invariant in
    let below-a = c.in_ok-a.ensures.first.1 in
    let below-b = c.in_ok-a.ensures.second.1 in
    let rows = c.self.inside.matrix.rows in
    let columns = c.self.inside.matrix.columns in
    let a = c.in_ok-a.a in
    let b = c.in_ok-a.b in
    rw c.swap.ensures (record {
      many = length-swap rows a b ∙ kept.many;
      many_columns = length-swap columns a b ∙ kept.many_columns;
      small = EntriesWithin-swap (9 ^ c.self.inside.skews) rows a b (omega (arith, kept.many, below-a)) (omega (arith, kept.many, below-b)) kept.small;
      small_columns = EntriesWithin-swap (9 ^ c.self.inside.skews) columns a b (omega (arith, kept.many_columns, below-a)) (omega (arith, kept.many_columns, below-b)) kept.small_columns;
      few = kept.few;
      leads = kept.leads;
      some = kept.some;
      limit = kept.limit;
    })
