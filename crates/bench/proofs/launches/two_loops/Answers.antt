use Rattle.std.proofs.Common.{◌≡◌, sym, subst, length, rules, lit<, lit≤, pos, List}
use Rattle.domain.specs.Tables.{Table, Level, Block, IsTable}
use Rattle.domain.specs.Examples.{two_loops}
use Rattle.domain.proofs.ExampleLaws.{two_loops-is}
use Rattle.bench.proofs.launches.two_loops.Goals as goal

table-of : (levels : List Level) (blocks : List Block) (t : Table) → levels ≡ t.levels → blocks ≡ t.blocks → IsTable 2 t → IsTable 2 (record { levels = levels; blocks = blocks })
table-of levels blocks t e f h =
    subst (λ (bs : List Block). IsTable 2 (record { levels = levels; blocks = bs })) (sym f) (subst (λ (ls : List Level). IsTable 2 (record { levels = ls; blocks = t.blocks })) (sym e) h)

pub new-requires-4 : goal.new-requires-4
new-requires-4 c =
    let size : length c.args.trip.coef ≡ 2 = search rules in
    let t : Table = two_loops (pos 1) c.constant-lower.result c.args.trip c.args.accesses.items in
    let e : c.push-2.new.self.items ≡ (two_loops (pos 1) c.constant-lower.result c.args.trip c.args.accesses.items).levels = search rules in
    let f : c.push-4.new.self.items ≡ (two_loops (pos 1) c.constant-lower.result c.args.trip c.args.accesses.items).blocks = search rules in (
      lit< tt,
      (
        lit< tt,
        (
          lit< tt,
          table-of c.push-2.new.self.items c.push-4.new.self.items t e f
              (two_loops-is (pos 1) c.constant-lower.result c.args.trip c.args.accesses.items c.requires.few (lit≤ tt) size c.requires.outer c.requires.inner c.requires.constant),
        ),
      ),
    )
