use Rattle.std.proofs.Common.{◌∙◌, subst, sym}
use Rattle.std.proofs.lemmas.List.Filters.{dedup_is}
use Rattle.std.proofs.lemmas.List.Kept.{Contains-dedup, Contains-from_dedup, IsStrictlySortedBy-dedup}
use Rattle.std.proofs.lemmas.List.Sorted.{Contains-permutation, IsPermutation-sym}
use Rattle.orders.specs.Orders.{Ordered}
use Rattle.plain_lemmas.specs.Lists.{Has}
use Rattle.plain_lemmas.proofs.MembershipLaws.{contains-from-has, has-from-contains}
use Rattle.skeletons.specs.Cells.{CellComes}
use Rattle.skeletons.specs.contracts.cell.CellOrd.TheImpl.Laws.{total-law, matches_eq-law}
use Rattle.skeletons.proofs.CellListLaws.{cell-exact, equivalence-of, ordered-sorted}
use Rattle.skeletons.proofs.cell_list.in_order.Goals as goal

pub returns-clause-ordered : goal.returns-clause-ordered
returns-clause-ordered g c =
    let is = dedup_is _ _ _ c.dedup.ensures.filtered in
    subst (Ordered CellComes) (sym is) (ordered-sorted _ _ (IsStrictlySortedBy-dedup (total-law g.row.D g.D.fits) (matches_eq-law g.row.D g.D.fits) _ c.sort_unstable.ensures.sorted))

pub returns-clause-has : goal.returns-clause-has
returns-clause-has g c =
    let is = dedup_is _ _ _ c.dedup.ensures.filtered in
    let moved = c.sort_unstable.ensures.permutation in
    λ cell. (
      λ h. has-from-contains c.args.cells.items cell (Contains-permutation _ _ cell (IsPermutation-sym _ _ moved) (Contains-from_dedup _ _ cell (contains-from-has _ cell (subst (λ cs. Has cs cell) is h)))),
      λ h. subst (λ cs. Has cs cell) (sym is) (has-from-contains _ cell (Contains-dedup (equivalence-of _ _ (total-law g.row.D g.D.fits) (matches_eq-law g.row.D g.D.fits)) (λ x y e. cell-exact x y (sym (matches_eq-law g.row.D g.D.fits x y) ∙ e)) _ cell
          (Contains-permutation _ _ cell moved (contains-from-has c.args.cells.items cell h)))),
    )
