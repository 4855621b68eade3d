use Rattle.std.proofs.Common.{◌∙◌, sym, ap, ◌≤◌, ◌<◌, neg_ℤ, unsigned_abs, rules, arith}
use Rattle.std.proofs.Math.ListN.{length-set}
use Rattle.std.proofs.lemmas.Int.{ints, to_z-of_z}
use Rattle.affine.specs.Inverses.{Inverted}
use Rattle.transform.proofs.DraftLaws.{drafted-skew}
use Rattle.transform.proofs.EntryLaws.{EntriesWithin-next, row-fits-skew}
use Rattle.transform.proofs.draft.Draft.skew.Goals as goal

pub skew-requires : goal.skew-requires
skew-requires g c =
    let range = c.ranges.m in
    let kept = c.self.invariant in
    let below-a = c.in_ok-a.ensures.first.1 in
    let below-b = c.in_ok-a.ensures.second.1 in
    let rows = c.self.inside.matrix.rows in
    let columns = c.self.inside.matrix.columns in
    let a = c.in_ok-a.a in
    let b = c.in_ok-a.b in
    let size = simp to_z-of_z at c.unsigned_abs.ensures.value in
    let factor : unsigned_abs c.args.m ≤ 8 = omega (arith, size, c.if-unsigned_abs-gt-LARGEST_FACTOR.false) in
    let turned : unsigned_abs (neg_ℤ c.args.m) ≤ 8 = omega (arith, ints, factor) in
    let few : c.self.inside.skews < 6 = omega (arith, kept.few, c.if-self-eq-MOST_SKEWS.false) in (
      search rules,
      (
        below-a,
        (
          below-b,
          (
            c.in_ok-a.ensures.different,
            (
              simp to_z-of_z (omega (arith, factor)),
              (
                simp to_z-of_z (row-fits-skew c.self.inside.skews rows a b c.args.m few (omega (arith, kept.many, below-a)) (omega (arith, kept.many, below-b)) factor kept.small),
                simp to_z-of_z (row-fits-skew c.self.inside.skews columns b a (neg_ℤ c.args.m) few (omega (arith, kept.many_columns, below-b)) (omega (arith, kept.many_columns, below-a)) turned kept.small_columns),
              ),
            ),
          ),
        ),
      ),
    )

pub invariant_of-self : goal.invariant_of-self
invariant_of-self g c =
    let range = c.ranges.m in
    let kept = c.self.invariant in
    let below-a = c.in_ok-a.ensures.first.1 in
    let below-b = c.in_ok-a.ensures.second.1 in
    let rows = c.self.inside.matrix.rows in
    let columns = c.self.inside.matrix.columns in
    let a = c.in_ok-a.a in
    let b = c.in_ok-a.b in
    let size = simp to_z-of_z at c.unsigned_abs.ensures.value in
    let factor : unsigned_abs c.args.m ≤ 8 = omega (arith, size, c.if-unsigned_abs-gt-LARGEST_FACTOR.false) in
    let turned : unsigned_abs (neg_ℤ c.args.m) ≤ 8 = omega (arith, ints, factor) in
    let few : c.self.inside.skews < 6 = omega (arith, kept.few, c.if-self-eq-MOST_SKEWS.false) in
    rw c.skew.ensures (simp to_z-of_z (record {
      many = length-set rows a _ ∙ kept.many;
      many_columns = length-set columns b _ ∙ kept.many_columns;
      small = EntriesWithin-next c.self.inside.skews rows a b c.args.m (omega (arith, kept.many, below-a)) (omega (arith, kept.many, below-b)) factor kept.small;
      small_columns = EntriesWithin-next c.self.inside.skews columns b a (neg_ℤ c.args.m) (omega (arith, kept.many_columns, below-b)) (omega (arith, kept.many_columns, below-a)) turned kept.small_columns;
      few = omega (arith, few);
      leads = kept.leads;
      some = kept.some;
      limit = kept.limit;
    }))

pub returns : goal.returns
returns g c =
    let range = c.ranges.m in
    let kept = c.self.invariant in
    let size = simp to_z-of_z at c.unsigned_abs.ensures.value in
    let factor : unsigned_abs c.args.m ≤ 8 = omega (arith, size, c.if-unsigned_abs-gt-LARGEST_FACTOR.false) in
    let few : c.self.inside.skews < 6 = omega (arith, kept.few, c.if-self-eq-MOST_SKEWS.false) in
    let moved = simp to_z-of_z at (ap (λ (made : Inverted). made.rows) c.skew.ensures) in
    rw (← c.self.view_is)
    (drafted-skew g.row.D _ c.args.a c.args.b c.in_ok-a.a c.in_ok-a.b c.args.m c.skew.new.self.rows (sym c.in_ok-a.ensures.some) factor few c.in_ok-a.ensures.first.0 c.in_ok-a.ensures.second.0 moved)
