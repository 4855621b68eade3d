use Rattle.std.proofs.Common.{◌≡◌, refl, ap, subst, ◌∙◌, ℕ, length, List, Option, Some, slice_get, arith}
use Rattle.std.proofs.lemmas.Option.{slice_get_read}
use Rattle.nest_lang.specs.declared.tree.Loop.{Loop}
use Rattle.domain.specs.Shapes.{kind_of}
use Rattle.profile.specs.Parts.{AreLevels, LoopBounds, level_with}
use Rattle.profile.proofs.WholeLaws.{more-level, more-reach}
use Rattle.profile.proofs.nest_fit.fit_levels.Goals as goal

pub loop-around-preserved : goal.loop-around-preserved
loop-around-preserved g c =
    let loops = c.args.nest.now.loops in
    let n = c.loop-around.around in
    let l : Loop = c.at-item.result in
    let items : c.as_slice-at-items.result.now ≡ loops = c.as_slice-at-items.ensures in
    let here : slice_get c.as_slice-at-items.result.now n ≡ Some l = slice_get_read c.as_slice-at-items.result.now _ n l refl c.loop-around-test.true c.at-item.is in
    let at : slice_get loops n ≡ Some l = subst (λ (xs : List Loop). slice_get xs n ≡ Some l) items here in (
      more-level loops c.args.bounds.now n c.loop-around.levels.items c.push.new.self.items l c.fit_level-level.result c.loop-around.invariant.0 at
          (c.fit_level-level.ensures.level ∙ ap (λ (o : Option LoopBounds). level_with (kind_of l.head) o) c.own_bounds-own.ensures) c.in_ok-push.ensures.items,
      more-reach c.loop-around.levels.items c.push.new.self.items c.fit_level-level.result c.loop-around.invariant.1 c.fit_level-level.ensures.stride (c.is_within_reach.ensures c.if-not-is_within_reach.false) c.in_ok-push.ensures.items,
    )

pub returns-clause-levels : goal.returns-clause-levels
returns-clause-levels g c =
    let items = c.as_slice-at-items.ensures in
    let size : length c.as_slice-at-items.result.now ≡ length c.args.nest.now.loops = ap (λ (xs : List Loop). length xs) items in
    let n : c.loop-around.around ≡ length c.args.nest.now.loops = omega arith in
    subst (λ (j : ℕ). AreLevels c.args.nest.now.loops c.args.bounds.now j c.loop-around.levels.items) n c.loop-around.invariant.0
