use Rattle.std.proofs.Common.{ℕ, ◌<◌, ◌≤◌}
use Rattle.std.proofs.lemmas.List.Elements.{All-set}
use Rattle.transform.proofs.draft.Draft.tile.Goals as goal

pub invariant_of-self : goal.invariant_of-self
invariant_of-self g c =
    let kept = c.self.invariant in
    let Some : ℕ → Type 0 = λ size. 0 < size in
    let Limited : ℕ → Type 0 = λ size. size ≤ 65536 in
    record {
      many = kept.many;
      many_columns = kept.many_columns;
      small = kept.small;
      small_columns = kept.small_columns;
      few = kept.few;
      leads = kept.leads;
      some = All-set Some c.self.inside.size c.in_ok-a.a c.in_ok-self-inside.field-0 c.in_ok-self-inside.ensures.least kept.some;
      limit = All-set Limited c.self.inside.size c.in_ok-a.a c.in_ok-self-inside.field-0 c.in_ok-self-inside.ensures.most kept.limit;
    }
