use Rattle.affine.proofs.InverseLaws.{IsInverse-identity}
use Rattle.affine.proofs.unimodular.Unimodular.identity.Goals as goal

pub invariant_of-result : goal.invariant_of-result
invariant_of-result g c = rw (c.identity.ensures, c.identity-2.ensures) (IsInverse-identity g.row.D)
