use Rattle.affine.proofs.OneToOneLaws.{product-weighted}
use Rattle.affine.proofs.laws.product_is_linear.Goals as goal

pub returns : goal.returns
returns c = product-weighted
