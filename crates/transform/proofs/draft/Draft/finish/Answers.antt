use Rattle.std.proofs.Common.{rules}
use Rattle.transform.proofs.EntryLaws.{HasSmallEntries-within}
use Rattle.transform.proofs.draft.Draft.finish.Goals as goal

pub new-requires : goal.new-requires
new-requires g c =
    let kept = c.self.invariant in (
      search rules,
      (
        search rules,
        (
          search rules,
          (
            search rules,
            rw c.unwrap_or.ensures (record {
              many = kept.many;
              small = HasSmallEntries-within c.self.inside.skews c.self.inside.matrix.rows kept.few kept.small;
              small_columns = HasSmallEntries-within c.self.inside.skews c.self.inside.matrix.columns kept.few kept.small_columns;
              leads = kept.leads;
              some = kept.some;
              limit = kept.limit;
            }),
          ),
        ),
      ),
    )
