use Rattle.std.proofs.Common.{◌≡◌, ◌+◌, sym, ◌∙◌, ap, ap₂, subst, Some, ℤ, FitsSigned, w64, to_z, of_z, take, arith, rules}
use Rattle.std.specs.Prelude.{option_map, unsigned_abs}
use Rattle.std.proofs.lemmas.Int.{to_z-of_z}
use Rattle.nest_lang.specs.declared.tree.Head.{Head}
use Rattle.nest_lang.specs.declared.tree.Head.TheVariants.{For, While}
use Rattle.nest_lang.specs.Blocks.{head_at}
use Rattle.nest_lang.specs.Values.{turn_value}
use Rattle.domain.specs.Instances.{Instance, counter}
use Rattle.follow.specs.Instances.{lower_at}
use Rattle.follow_chunk.specs.Tasks.{task_of}
use Rattle.follow_chunk.specs.Predicted.{forecast_of}
use Rattle.follow_chunk.proofs.PlacingLaws.{lower-fits, value-fits, counter-fits, head-there, counters-deep, name-for, name-while}
use Rattle.follow_chunk.proofs.task.Task.value.Goals as goal

pub unreachable-requires : goal.unreachable-requires
unreachable-requires g c =
    let self = c.args.self.now in
    let task = c.requires.task in
    let deep = counters-deep g.row.D (task_of self) task.0 task.1 c.args.inst.now c.requires.predicted in
    let around = c.requires.around in
    head-there g.row.D (task_of self) task.0 task.1 c.args.inst.now c.requires.predicted c.args.depth (omega arith)
    (sym c.head.ensures ∙ ap (option_map (λ head. head.now)) c.in_default.is)

pub lower-requires : goal.lower-requires
lower-requires g c =
    let self = c.args.self.now in
    let task = c.requires.task in
    let deep = counters-deep g.row.D (task_of self) task.0 task.1 c.args.inst.now c.requires.predicted in
    let around = c.requires.around in
    let is : head_at self.nest.now.loops (c.args.depth + 1) ≡ Some (For c.in-For.field-0 c.in-For.field-1 c.in-For.stride) = sym c.head.ensures ∙ ap (option_map (λ head. head.now)) c.in-Some.is ∙ ap (λ (h : Head). Some h) c.in-For.is in
    let fits = lower-fits g.row.D (task_of self) task.0 task.1 c.args.inst.now c.requires.predicted c.args.depth c.in-For.field-0 c.in-For.field-1 c.in-For.stride around (omega arith) is in
    search rules

pub value_of_turn-requires : goal.value_of_turn-requires
value_of_turn-requires g c =
    let self = c.args.self.now in
    let task = c.requires.task in
    let deep = counters-deep g.row.D (task_of self) task.0 task.1 c.args.inst.now c.requires.predicted in
    let around = c.requires.around in
    let same = ap (λ (y : Instance). counter y.at c.args.depth) c.inst.view_is in
    let is : head_at self.nest.now.loops (c.args.depth + 1) ≡ Some (For c.in-For.field-0 c.in-For.field-1 c.in-For.stride) = sym c.head.ensures ∙ ap (option_map (λ head. head.now)) c.in-Some.is ∙ ap (λ (h : Head). Some h) c.in-For.is in
    let value : ℤ → ℤ → ℤ → ℤ = λ low stride turn. turn_value low stride (unsigned_abs turn) in
    let fits = counter-fits g.row.D (task_of self) task.0 task.1 c.args.inst.now c.requires.predicted c.args.depth in
    let turn = ap (λ (z : ℤ). to_z w64 (of_z w64 z)) same ∙ to_z-of_z w64 (counter c.args.inst.now.at c.args.depth) fits in
    let strides : FitsSigned w64 c.in-For.stride = search rules in
    let stride = to_z-of_z w64 c.in-For.stride strides in
    let low = to_z-of_z w64 c.lower.result (search rules) ∙ c.lower.ensures in
    subst (FitsSigned w64) (sym (ap₂ (λ (a b : ℤ). value a b (to_z w64 (of_z w64 (counter c.inst.inside.at c.args.depth)))) low stride ∙ ap (value (lower_at (forecast_of self.pred.now) self.outer (c.args.depth + 1) (take c.args.depth c.args.inst.now.at)) c.in-For.stride) turn))
    (value-fits g.row.D (task_of self) task.0 task.1 c.args.inst.now c.requires.predicted c.args.depth c.in-For.field-0 c.in-For.field-1 c.in-For.stride around (omega arith) is)

pub returns-in-For : goal.returns-in-For
returns-in-For g c =
    let self = c.args.self.now in
    let task = c.requires.task in
    let deep = counters-deep g.row.D (task_of self) task.0 task.1 c.args.inst.now c.requires.predicted in
    let around = c.requires.around in
    let same = ap (λ (y : Instance). counter y.at c.args.depth) c.inst.view_is in
    let is : head_at self.nest.now.loops (c.args.depth + 1) ≡ Some (For c.in-For.field-0 c.in-For.field-1 c.in-For.stride) = sym c.head.ensures ∙ ap (option_map (λ head. head.now)) c.in-Some.is ∙ ap (λ (h : Head). Some h) c.in-For.is in
    let value : ℤ → ℤ → ℤ → ℤ = λ low stride turn. turn_value low stride (unsigned_abs turn) in
    let fits = counter-fits g.row.D (task_of self) task.0 task.1 c.args.inst.now c.requires.predicted c.args.depth in
    let turn = ap (λ (z : ℤ). to_z w64 (of_z w64 z)) same ∙ to_z-of_z w64 (counter c.args.inst.now.at c.args.depth) fits in
    let strides : FitsSigned w64 c.in-For.stride = search rules in
    let stride = to_z-of_z w64 c.in-For.stride strides in
    let low = to_z-of_z w64 c.lower.result (search rules) ∙ c.lower.ensures in
    to_z-of_z w64 c.value_of_turn.result (search rules) ∙ c.value_of_turn.ensures
    ∙ ap₂ (λ (a b : ℤ). value a b (to_z w64 (of_z w64 (counter c.inst.inside.at c.args.depth)))) low stride ∙ ap (value (lower_at (forecast_of self.pred.now) self.outer (c.args.depth + 1) (take c.args.depth c.args.inst.now.at)) c.in-For.stride) turn
    ∙ sym (name-for g.row.D (task_of self) task.0 task.1 c.args.inst.now c.requires.predicted c.args.depth c.in-For.field-0 c.in-For.field-1 c.in-For.stride is)

pub returns-in-While : goal.returns-in-While
returns-in-While g c =
    let self = c.args.self.now in
    let task = c.requires.task in
    let same = ap (λ (y : Instance). counter y.at c.args.depth) c.inst.view_is in
    let is : head_at self.nest.now.loops (c.args.depth + 1) ≡ Some (While c.in-While.field-0) = sym c.head.ensures ∙ ap (option_map (λ head. head.now)) c.in-Some.is ∙ ap (λ (h : Head). Some h) c.in-While.is in
    let fits = counter-fits g.row.D (task_of self) task.0 task.1 c.args.inst.now c.requires.predicted c.args.depth in
    ap (λ (z : ℤ). to_z w64 (of_z w64 z)) same ∙ to_z-of_z w64 (counter c.args.inst.now.at c.args.depth) fits
    ∙ sym (name-while g.row.D (task_of self) task.0 task.1 c.args.inst.now c.requires.predicted c.args.depth c.in-While.field-0 is)
