use Rattle.std.proofs.Common.{sym, subst, List, rules, arith}
use Rattle.domain.specs.Tables.{Block, IsTable}
use Rattle.schedule_verdicts.proofs.NestedLaws.{nested-is}
use Rattle.schedule_verdicts.proofs.nested.nested.Goals as goal

pub new-requires : goal.new-requires
new-requires g c = (
  search rules,
  (
    search rules,
    (
      search rules,
      subst (λ (bs : List Block). IsTable g.row.D (record { levels = c.args.shape.levels.items; blocks = bs })) (sym c.in_ok-blocks.ensures)
          (nested-is g.row.D c.args.shape.levels.items c.args.shape.accesses.items (omega arith) c.requires.few c.requires.count c.requires.counted c.requires.short),
    ),
  ),
)
