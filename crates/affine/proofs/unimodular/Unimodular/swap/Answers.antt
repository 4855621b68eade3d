use Rattle.affine.proofs.InverseLaws.{IsInverse-swap}
use Rattle.affine.proofs.unimodular.Unimodular.swap.Goals as goal

pub invariant_of-self : goal.invariant_of-self
invariant_of-self g c =
    rw (c.swap.ensures, c.swap-2.ensures)
    (IsInverse-swap g.row.D c.self.inside.matrix c.self.inside.columns c.args.a c.args.b c.requires.first c.requires.second c.self.invariant)
