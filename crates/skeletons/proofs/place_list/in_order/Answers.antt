use Rattle.std.proofs.Common.{refl, ℤ, List, int_cmp, subst, sym}
use Rattle.std.specs.Prelude.{◌↔◌}
use Rattle.std.specs.Cmp.Lexicographic.{lists_ties}
use Rattle.std.proofs.lemmas.List.Filters.{dedup_is}
use Rattle.arrayvec.specs.ArrayVec.{ArrayVec}
use Rattle.orders.specs.Orders.{Ordered}
use Rattle.plain_lemmas.specs.Lists.{Has}
use Rattle.level_walk.specs.Orders.{Precedes}
use Rattle.skeletons.specs.PlaceLists.{numbers}
use Rattle.skeletons.proofs.SortedPointLaws.{dedup-has, dedup-ordered}
use Rattle.skeletons.proofs.place_list.in_order.Goals as goal

pub returns-clause-ordered : goal.returns-clause-ordered
returns-clause-ordered c =
    let is = dedup_is _ _ _ c.dedup.ensures.filtered in
    subst (λ (ps : List (ArrayVec ℤ)). Ordered Precedes (numbers ps)) (sym is)
    (dedup-ordered _ (λ p q. lists_ties int_cmp (λ x y. refl) p.items q.items) _ c.sort_unstable.ensures.sorted)

pub returns-clause-has : goal.returns-clause-has
returns-clause-has c =
    let is = dedup_is _ _ _ c.dedup.ensures.filtered in
    λ z. subst (λ (ps : List (ArrayVec ℤ)). Has (numbers ps) z ↔ Has (numbers c.args.places.items) z) (sym is)
    (dedup-has _ (λ p q. lists_ties int_cmp (λ x y. refl) p.items q.items) _ _ c.sort_unstable.ensures.permutation z)
