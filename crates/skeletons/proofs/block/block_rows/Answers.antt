use Rattle.std.proofs.Common.{◌≡◌, subst, ℕ, arith}
use Rattle.skeletons.specs.Scans.{IsRowsTo}
use Rattle.skeletons.proofs.block.block_rows.Goals as goal

pub returns : goal.returns
returns g c =
    let e : c.loop-place.place ≡ g.row.D = omega arith in
    subst (λ (k : ℕ). IsRowsTo g.row.D c.args.scope.now.pred.now c.args.scope.now.chunk c.args.scope.now.block.now c.args.scope.now.columns.now k c.loop-place.rows.items) e c.loop-place.invariant
