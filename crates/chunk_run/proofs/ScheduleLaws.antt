-- The schedule law, from the conflict law and the permutation law.
use Rattle.std.proofs.Common.{◌≡◌, sym, ap, ◌∙◌, subst, ℤ, pos, ◌≤ℤ◌, List, [], ◌∷◌, length, int_cmp, arith}
use Rattle.std.specs.Cmp.Lexicographic.{slice_cmp}
use Rattle.std.proofs.lemmas.Cmp.{lists_total, int_cmp_total}
use Rattle.std.proofs.lemmas.Int.{ints}
use Rattle.nest_lang.specs.declared.tree.Loop.{Loop}
use Rattle.nest_lang.specs.declared.state.Outer.{Outer}
use Rattle.nest_lang.specs.Turns.{IsPosition, IsPositionIn}
use Rattle.nest_lang.specs.declared.tree.Head.{Head}
use Rattle.nest_lang.specs.declared.tree.Head.TheVariants.{For, While}
use Rattle.orders.specs.Orders.{Ordered, Before, Differ, Precedes as ByKey}
use Rattle.plain_lemmas.specs.Lists.{Has}
use Rattle.orders.proofs.ListLaws.{ordered-weaker}
use Rattle.plain_lemmas.proofs.MembershipLaws.{contains-from-has}
use Rattle.orders.proofs.SortLaws.{never-itself}
use Rattle.domain.specs.Instances.{Instance, Predicted, Precedes, original_key, Ordered as InOrder}
use Rattle.domain.specs.Footprints as table
use Rattle.dependence.specs.Laws.{IsShortLaunch, KeepsConflicts, key_at}
use Rattle.dependence.proofs.ListLaws.{conflict_law}
use Rattle.follow.specs.Plans.{Item}
use Rattle.follow.specs.ReorderLaws as list
use Rattle.follow.proofs.ReorderingLaws.{permutation-keeps}
use Rattle.follow_chunk.specs.Predicted.{instance_of, forecast_of}
use Rattle.follow_chunk.specs.Items.{item_at, items_at, scalars_after}
use Rattle.follow_chunk.proofs.ConflictLaws.{conflicts-agree, instances-have-items, instances-return}
use Rattle.chunk_run.specs.ScheduleLaw.{ScheduledKeeps}
use Rattle.chunk_run.proofs.ListLaws.{before-first, before-second, before-map, before-unmap, same-map, differ-map}

in-order : {X : Type 0} (R : X → X → Type 0) (xs : List X) → InOrder R xs → Ordered R xs
in-order R [] h = tt
in-order R (x ∷ xs) h = (h.0, in-order R xs h.1)

from-head : (h : Head) (o : Outer) → IsPosition h o → pos 0 ≤ℤ o.next
from-head (For lower upper stride) o (n, m, is, left, rest) = omega (arith, ints, is)
from-head (While condition) o (n, is, rest) = omega (arith, ints, is)

pub from-position : (loops : List Loop) (o : Outer) → IsPositionIn loops o → pos 0 ≤ℤ o.next
from-position [] o at = absurd at
from-position (l ∷ ls) o at = from-head l.head o at

pub scheduled-keeps : ScheduledKeeps
scheduled-keeps D job L s xs ys words task sched legal most original scheduled =
    sym (permutation-keeps (forecast_of job.pred) (scalars_after job.pred) (items_at job.pred job.loops job.outer xs) (items_at job.pred job.loops job.outer ys) words (differ-map Run xs (apart xs (λ x h. h)) xs-differ) (differ-map Run ys (apart ys scheduled.same.back) ys-differ) (same-map Run xs ys scheduled.same) keeps)
  where
    Run : Instance → Item
    Run x = item_at job.pred job.loops job.outer x

    launch : IsShortLaunch job.pred L (pos (length words)) job.chunk
    launch = record { first = subst (λ (z : ℤ). pos 0 ≤ℤ z) (sym task.first) (from-position job.loops job.outer task.position); turns = most; instances = (task.launched).0; launched = (task.launched).1 }

    kept : KeepsConflicts job.pred (pos (length words)) s xs ys
    kept = conflict_law D job.pred L (pos (length words)) s job.chunk xs ys task.shape sched legal launch original scheduled

    predicted : (x : Instance) → Has xs x → Predicted job.pred job.chunk x
    predicted x h = (original.has x).0 (contains-from-has xs x h)

    back-to : (x : Instance) → Predicted job.pred job.chunk x → instance_of job.pred (Run x).at ≡ x
    back-to x p = ap (instance_of job.pred) (instances-have-items D job (length words) x task p).1 ∙ instances-return D job.pred x task.shape p.is

    apart : (zs : List Instance) → ((x : Instance) → Has zs x → Has xs x) → (x y : Instance) → Has zs x → Has zs y → Run x ≡ Run y → x ≡ y
    apart zs there x y h k e = sym (back-to x (predicted x (there x h))) ∙ ap (λ (i : Item). instance_of job.pred i.at) e ∙ back-to y (predicted y (there y k))

    xs-differ : Ordered Differ xs
    xs-differ = ordered-weaker (Precedes job.pred) Differ (λ x y r e. never-itself (slice_cmp int_cmp) (lists_total int_cmp_total) (original_key job.pred) x (subst (Precedes job.pred x) (sym e) r)) xs (in-order (Precedes job.pred) xs original.ordered)

    ys-differ : Ordered Differ ys
    ys-differ = ordered-weaker (ByKey (slice_cmp int_cmp) (key_at job.pred s)) Differ (λ x y r e. never-itself (slice_cmp int_cmp) (lists_total int_cmp_total) (key_at job.pred s) x (subst (ByKey (slice_cmp int_cmp) (key_at job.pred s) x) (sym e) r)) ys scheduled.ordered

    keeps : (i j : Item) → list.Conflict (forecast_of job.pred) (length words) i j → Before (items_at job.pred job.loops job.outer xs) i j → Before (items_at job.pred job.loops job.outer ys) i j
    keeps i j conflict h =
        let found = before-unmap Run xs i j h in
        let x = found.0 in
        let y = found.1 in
        let before = found.2 in
        let first = before-first Run xs x y before in
        let second = before-second Run xs x y before in
        let real : table.Conflict job.pred (pos (length words)) x y =
        (conflicts-agree D job (length words) x y task (predicted x first) (predicted y second)).0
        (subst (λ w. list.Conflict (forecast_of job.pred) (length words) w (Run y)) found.3 (subst (λ w. list.Conflict (forecast_of job.pred) (length words) i w) found.4 conflict)) in
        subst (λ w. Before (items_at job.pred job.loops job.outer ys) w j) (sym found.3) (subst (λ w. Before (items_at job.pred job.loops job.outer ys) (Run x) w) (sym found.4) (before-map Run ys x y ((kept.order x y real).0 before)))
