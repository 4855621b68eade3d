use Rattle.std.proofs.Common.{rules, ◌≡◌, ◌∙◌, ◌+◌, ◌-◌, ℕ, ℤ, pos, ◌+ℤ◌, List, [], ◌∷◌, ◌++◌, length, get_or, refl, sym, ap, subst, FitsSigned, w64, arith}
use Rattle.std.proofs.Math.ListN.{set}
use Rattle.std.proofs.lemmas.Int.{to_z-of_z}
use Rattle.std.proofs.lemmas.List.{get_or_default}
use Rattle.level_walk.specs.Stretches.{AreRunsOf, IsBehind, point_at}
use Rattle.level_walk.specs.declared.runs.Run.{Run}
use Rattle.level_walk.proofs.JoinLaws.{joined-apart, joined-first, joined-on, lengthened}
use Rattle.level_walk.proofs.RunLaws.{split_last}
use Rattle.level_walk.proofs.stretches.join.Goals as goal
use Rattle.level_walk.proofs.stretches.join.Goals.{else-count-gt0-via-then-count-gt0+else-goes_on, else-count-gt0-via-else-count-gt0}

-- the last run takes the point
on : (list : List (List ℤ)) (rs : List Run) (p l m changed : Run) (count : ℕ) → AreRunsOf list rs → IsBehind list p → length rs ≡ count → 1 + (count - 1) ≡ count → l ≡ get_or rs (count - 1) l → m ≡ get_or rs (count - 1) m
    → l.front.items ≡ p.front.items → l.high +ℤ pos 1 ≡ p.low → changed ≡ lengthened m p.high → AreRunsOf (list ++ point_at p p.low ∷ []) (set rs (count - 1) changed)
on list rs p l m changed count joined behind size some at other front next is =
    let split = split_last rs (count - 1) l (omega (arith, size, some)) in
    let same : l ≡ m = at ∙ get_or_default rs (count - 1) l m (omega (arith, size, some)) ∙ sym other in
    let made : changed ≡ lengthened l p.high = is ∙ ap (λ (r : Run). lengthened r p.high) (sym same) in
    subst (AreRunsOf (list ++ point_at p p.low ∷ [])) (sym (split.changed changed ∙ ap (λ (r : Run). split.front ++ r ∷ []) made))
    (joined-on list rs p joined behind.one behind.after behind.long split.front l (split.is ∙ ap (λ (r : Run). split.front ++ r ∷ []) (sym at)) front next)

pub returns-then-goes_on : goal.returns-then-goes_on
returns-then-goes_on c = λ list joined behind.
    let size : length c.args.runs.now.items ≡ c.len-count.result = search rules in
    let some = c.if-count-gt0.true in
    let fits : FitsSigned w64 c.args.next.high = search rules in
    let h = c.if-goes_on.ensures.on refl in
    on list c.args.runs.now.items c.args.next c.index.result.now c.index_mut.result.now _ c.len-count.result joined behind size (omega (arith, some)) c.index.ensures c.index_mut.ensures.value h.0 h.1
    (ap (λ (z : ℤ). lengthened c.index_mut.result.now z) (to_z-of_z w64 c.args.next.high fits))

none : (rs : List Run) → length rs ≡ 0 → rs ≡ []
none [] h = refl
none (r ∷ rs) h = absurd (omega arith)

pub returns-in_ok-push : goal.returns-in_ok-push
returns-in_ok-push c = λ list joined behind. subst (AreRunsOf (list ++ point_at c.args.next c.args.next.low ∷ [])) (sym c.in_ok-push.ensures.items)
    (elim c.else-count-gt0.branch [
      | else-count-gt0-via-then-count-gt0+else-goes_on w ↦
          let size : length c.args.runs.now.items ≡ c.len-count.result = search rules in
          let some = w.if-count-gt0.true in
          let split = split_last c.args.runs.now.items (c.len-count.result - 1) w.index.result.now (omega (arith, size, some)) in
          joined-apart list c.args.runs.now.items c.args.next joined behind.one behind.after behind.long split.front w.index.result.now
          (split.is ∙ ap (λ (r : Run). split.front ++ r ∷ []) (sym w.index.ensures)) (w.goes_on.ensures.apart w.if-goes_on.false)
      | else-count-gt0-via-else-count-gt0 w ↦
          let size : length c.args.runs.now.items ≡ c.len-count.result = search rules in
          let past = w.if-count-gt0.false in
          joined-first list c.args.runs.now.items c.args.next joined behind.one behind.after behind.long (none c.args.runs.now.items (omega (arith, size, past)))
    ])
