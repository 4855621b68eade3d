use Rattle.std.proofs.Common.{◌≡◌, ◌++◌, map}
use Rattle.std.specs.List.{range_with_len}
use Rattle.domain.specs.declared.prediction.What.TheVariants.{Scalar}
use Rattle.listing.specs.Lists.{forms_of}
use Rattle.listing.proofs.forms.Site.list_scalars.Given as goal

abbrev pub invariant-loop-number : goal.invariant-loop-number
invariant-loop-number g l = l.lines.items ≡ l.initial.lines.items ++ forms_of l.pred l.self.rank l.self.block (map (λ n. Scalar n) (range_with_len 0 l.number))
