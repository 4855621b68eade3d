use Rattle.std.proofs.Common.{◌≡◌, ◌<◌, refl, sym, ◌∙◌, ap, ap₂, subst, ℕ, ℤ, ◌+◌, ◌++◌, ◌∷◌, [], List, length, pos, w64, to_z, of_z, take, arith, rules}
use Rattle.std.proofs.lemmas.Int.{to_z-of_z}
use Rattle.std.proofs.lemmas.List.{length-replicate, take_more_set}
use Rattle.nest_lang.specs.Loops.{Around}
use Rattle.nest_lang.specs.Blocks.{head_at}
use Rattle.follow_chunk.specs.Tasks.{task_of}
use Rattle.follow_chunk.specs.Items.{around_of}
use Rattle.follow_chunk.proofs.PlacingLaws.{around-next, around-none, counters-deep}
use Rattle.follow_chunk.proofs.task.Task.values.Goals as goal

pub loop-depth-init : goal.loop-depth-init
loop-depth-init g c = record {
  long = length-replicate g.row.D (pos 0);
  same = sym (ap (λ (a : Around). a.values) (around-none c.args.self.now.pred.now c.args.self.now.nest.now.loops c.args.self.now.outer));
}

pub loop-depth-preserved : goal.loop-depth-preserved
loop-depth-preserved g c =
    let self = c.args.self.now in
    let task = c.requires.task in
    let deep = counters-deep g.row.D (task_of self) task.0 task.1 c.args.inst.now c.requires.predicted in
    let around = c.requires.around in
    let test = c.loop-depth-test.true in
    let value = to_z-of_z w64 c.value.result (search rules) ∙ c.value.ensures in
    let long = c.loop-depth.invariant.long in
    let room : c.loop-depth.depth < length c.loop-depth.values = omega arith in
    record {
      long = search rules;
      same =
          take_more_set c.loop-depth.values c.loop-depth.depth (to_z w64 (of_z w64 c.value.result)) room
          ∙ ap₂ (λ (vs : List ℤ) (v : ℤ). vs ++ v ∷ []) c.loop-depth.invariant.same value
          ∙ sym (ap (λ (a : Around). a.values) (around-next g.row.D (task_of self) task.0 task.1 c.args.inst.now c.requires.predicted c.loop-depth.depth (omega arith) (head_at self.nest.now.loops (c.loop-depth.depth + 1)) refl));
    }

pub returns : goal.returns
returns g c =
    let self = c.args.self.now in
    let end : c.loop-depth.depth ≡ c.args.loops = search rules in
    subst (λ (n : ℕ). take n c.loop-depth.values ≡ (around_of self.pred.now self.nest.now.loops self.outer (take n c.args.inst.now.at)).values) end c.loop-depth.invariant.same
