use Rattle.std.proofs.Common.{◌≡◌, ◌-◌, sym, ◌∙◌, ap, ap₂, subst, ℕ, List, ℤ, pos, Bool, true, false, Option, Some, w64, to_z, of_z, get_or, nat_le, arith, rules}
use Rattle.std.specs.Prelude.{unwrap_or, int_lt, ◌||◌}
use Rattle.std.specs.Int.{w128}
use Rattle.std.proofs.lemmas.Int.{to_z-of_z}
use Rattle.std.proofs.lemmas.Bool.Decides.{nat_tests}
use Rattle.nest_lang.specs.declared.tree.BlockRef.{BlockRef}
use Rattle.nest_lang.specs.declared.tree.Head.{Head}
use Rattle.nest_lang.specs.declared.tree.Head.TheVariants.{For, While}
use Rattle.nest_lang.specs.Blocks.{head_at}
use Rattle.domain.specs.declared.prediction.What.TheVariants.{Trip}
use Rattle.domain.specs.Tables.{cut, trip}
use Rattle.domain.specs.Instances.{Instance, instance, block_of, counter}
use Rattle.domain.specs.Expected.{expected_of}
use Rattle.follow.specs.declared.how.Turning.TheVariants.{Bounds, Holds}
use Rattle.follow.specs.Turnings.{IsTurning}
use Rattle.follow_chunk.specs.Tasks.{task_of}
use Rattle.follow_chunk.specs.Predicted.{occurrence_of, forecast_of}
use Rattle.follow_chunk.proofs.PlacingLaws.{counter-fits}
use Rattle.follow_chunk.proofs.RunningLaws.{trip-here, bounds-here, holds-here}
use Rattle.follow_chunk.proofs.task.Task.turning.Goals as goal

pub returns-in-For : goal.returns-in-For
returns-in-For g c =
    let self = c.args.self.now in
    let task = c.requires.task in
    let x = c.args.inst.now in
    let p = c.requires.predicted in
    let part-is = sym (ap (λ (r : BlockRef). r.part) c.requires.block) ∙ c.requires.part in
    let trip_is =
    c.unwrap_or-trip.ensures
    ∙ ap (λ (v : Option ℤ). unwrap_or v (pos 0))
    (c.expected.ensures ∙ ap₂ (λ (b : ℕ) (at : List ℤ). expected_of self.pred.now (instance b at) Trip) (ap (λ (y : Instance). y.block) c.inst.view_is) (c.cut.ensures ∙ ap₂ cut (ap (λ (r : BlockRef). r.level - 1) c.requires.block) (ap (λ (y : Instance). y.at) c.inst.view_is)))
    ∙ trip-here g.row.D (task_of self) task.0 task.1 x p part-is in
    let head-is : head_at self.nest.now.loops (block_of self.pred.now x).level ≡ Some (For c.in-For.field-0 c.in-For.field-1 c.in-For.field-2) = ap (λ (r : BlockRef). head_at self.nest.now.loops r.level) (sym c.requires.block) ∙ c.requires.head ∙ ap (λ (h : Head). Some h) c.in-For.is in
    let low = c.unwrap_or.ensures ∙ ap (λ (v : Option ℤ). unwrap_or v (pos 0)) c.expected-in-For.ensures in
    let both = ap₂ Bounds (to_z-of_z w128 c.unwrap_or.result (search rules) ∙ low) (to_z-of_z w128 c.unwrap_or-trip.result (search rules) ∙ trip_is) in
    subst (λ (h : Head). IsTurning (forecast_of self.pred.now) (occurrence_of self.pred.now x) h (Bounds (to_z w128 (of_z w128 c.unwrap_or.result)) (to_z w128 (of_z w128 c.unwrap_or-trip.result)))) (sym c.in-For.is)
    (both ∙ bounds-here g.row.D (task_of self) task.0 task.1 x p c.in-For.field-0 c.in-For.field-1 c.in-For.field-2 head-is part-is)

pub returns-then-block-le1 : goal.returns-then-block-le1
returns-then-block-le1 g c =
    let self = c.args.self.now in
    let task = c.requires.task in
    let x = c.args.inst.now in
    let p = c.requires.predicted in
    let part-is = sym (ap (λ (r : BlockRef). r.part) c.requires.block) ∙ c.requires.part in
    let trip_is =
    c.unwrap_or-trip.ensures
    ∙ ap (λ (v : Option ℤ). unwrap_or v (pos 0))
    (c.expected.ensures ∙ ap₂ (λ (b : ℕ) (at : List ℤ). expected_of self.pred.now (instance b at) Trip) (ap (λ (y : Instance). y.block) c.inst.view_is) (c.cut.ensures ∙ ap₂ cut (ap (λ (r : BlockRef). r.level - 1) c.requires.block) (ap (λ (y : Instance). y.at) c.inst.view_is)))
    ∙ trip-here g.row.D (task_of self) task.0 task.1 x p part-is in
    let head-is : head_at self.nest.now.loops (block_of self.pred.now x).level ≡ Some (While c.in-While.field-0) = ap (λ (r : BlockRef). head_at self.nest.now.loops r.level) (sym c.requires.block) ∙ c.requires.head ∙ ap (λ (h : Head). Some h) c.in-While.is in
    let test = c.if-block-le1.true in
    let first : nat_le c.args.block.level 1 ≡ true = grind (arith, nat_tests) in
    let second : nat_le (block_of self.pred.now x).level 1 ≡ true = sym (ap (λ (r : BlockRef). nat_le r.level 1) c.requires.block) ∙ first in
    let or : nat_le c.args.block.level 1 ≡ (nat_le (block_of self.pred.now x).level 1 || int_lt (counter x.at ((block_of self.pred.now x).level - 1)) (trip self.pred.now ((block_of self.pred.now x).level - 1) x.at)) =
    first ∙ sym (ap (λ (b : Bool). b || int_lt (counter x.at ((block_of self.pred.now x).level - 1)) (trip self.pred.now ((block_of self.pred.now x).level - 1) x.at)) second) in
    subst (λ (h : Head). IsTurning (forecast_of self.pred.now) (occurrence_of self.pred.now x) h (Holds (nat_le c.args.block.level 1))) (sym c.in-While.is)
    (ap Holds or ∙ holds-here g.row.D (task_of self) task.0 task.1 x p c.in-While.field-0 head-is part-is)

pub returns-else-block-le1 : goal.returns-else-block-le1
returns-else-block-le1 g c =
    let self = c.args.self.now in
    let task = c.requires.task in
    let x = c.args.inst.now in
    let p = c.requires.predicted in
    let part-is = sym (ap (λ (r : BlockRef). r.part) c.requires.block) ∙ c.requires.part in
    let trip_is =
    c.unwrap_or-trip.ensures
    ∙ ap (λ (v : Option ℤ). unwrap_or v (pos 0))
    (c.expected.ensures ∙ ap₂ (λ (b : ℕ) (at : List ℤ). expected_of self.pred.now (instance b at) Trip) (ap (λ (y : Instance). y.block) c.inst.view_is) (c.cut.ensures ∙ ap₂ cut (ap (λ (r : BlockRef). r.level - 1) c.requires.block) (ap (λ (y : Instance). y.at) c.inst.view_is)))
    ∙ trip-here g.row.D (task_of self) task.0 task.1 x p part-is in
    let head-is : head_at self.nest.now.loops (block_of self.pred.now x).level ≡ Some (While c.in-While.field-0) = ap (λ (r : BlockRef). head_at self.nest.now.loops r.level) (sym c.requires.block) ∙ c.requires.head ∙ ap (λ (h : Head). Some h) c.in-While.is in
    let test = c.if-block-le1.false in
    let first : nat_le c.args.block.level 1 ≡ false = grind (arith, nat_tests) in
    let second : nat_le (block_of self.pred.now x).level 1 ≡ false = sym (ap (λ (r : BlockRef). nat_le r.level 1) c.requires.block) ∙ first in
    let fits = counter-fits g.row.D (task_of self) task.0 task.1 x p ((block_of self.pred.now x).level - 1) in
    let from =
    to_z-of_z w128 c.from.result (search rules) ∙ c.from.ensures
    ∙ ap₂ (λ (at : List ℤ) (k : ℕ). to_z w64 (of_z w64 (get_or at k (pos 0)))) (ap (λ (y : Instance). y.at) c.inst.view_is) (ap (λ (r : BlockRef). r.level - 1) c.requires.block)
    ∙ to_z-of_z w64 (counter x.at ((block_of self.pred.now x).level - 1)) fits in
    let less = ap₂ int_lt from (to_z-of_z w128 c.unwrap_or-trip.result (search rules) ∙ trip_is) in
    let or : int_lt (counter x.at ((block_of self.pred.now x).level - 1)) (trip self.pred.now ((block_of self.pred.now x).level - 1) x.at) ≡ (nat_le (block_of self.pred.now x).level 1 || int_lt (counter x.at ((block_of self.pred.now x).level - 1)) (trip self.pred.now ((block_of self.pred.now x).level - 1) x.at)) =
    sym (ap (λ (b : Bool). b || int_lt (counter x.at ((block_of self.pred.now x).level - 1)) (trip self.pred.now ((block_of self.pred.now x).level - 1) x.at)) second) in
    subst (λ (h : Head). IsTurning (forecast_of self.pred.now) (occurrence_of self.pred.now x) h (Holds (int_lt (to_z w128 (of_z w128 c.from.result)) (to_z w128 (of_z w128 c.unwrap_or-trip.result))))) (sym c.in-While.is)
    (ap Holds (less ∙ or) ∙ holds-here g.row.D (task_of self) task.0 task.1 x p c.in-While.field-0 head-is part-is)
