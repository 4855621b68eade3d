use Rattle.std.proofs.Common.{◌≡◌, take}
use Rattle.listing.proofs.forms.coefficients.Given as goal

abbrev pub invariant-loop-place : goal.invariant-loop-place
invariant-loop-place g l = l.found.items ≡ take l.place l.form.coef
