use Rattle.std.proofs.Common.{◌≡◌, ◌++◌, map}
use Rattle.std.specs.List.{range_with_len}
use Rattle.domain.specs.declared.prediction.What.TheVariants.{Address}
use Rattle.listing.specs.Lists.{forms_of}
use Rattle.listing.proofs.forms.Site.list_addresses.Given as goal

abbrev pub invariant-loop-before : goal.invariant-loop-before
invariant-loop-before g l = l.lines.items ≡ l.initial.lines.items ++ forms_of l.pred l.self.rank l.self.block (map (λ n. Address n) (range_with_len 1 l.before))
