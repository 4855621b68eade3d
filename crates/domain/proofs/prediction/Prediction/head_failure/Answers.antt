use Rattle.std.proofs.Common.{◌≡◌, ◌≤◌, ◌-◌, ◌*◌, ◌^◌, sym, ap, subst, ℤ, unsigned_abs, FitsSigned, rules}
use Rattle.std.specs.Int.{w128}
use Rattle.std.proofs.lemmas.Int.{to_z-of_z}
use Rattle.affine.specs.Forms.{AllWithinSize}
use Rattle.domain.specs.declared.table.LoopKind.{LoopKind}
use Rattle.domain.specs.Tables.{Level, level_at, stride_size, Reaches}
use Rattle.domain.specs.Instances.{Instance}
use Rattle.domain.proofs.CheckLaws.{trip-reach, trip-near, size-some, last-near}
use Rattle.domain.proofs.prediction.Prediction.head_failure.Goals as goal

pub loop_failure-requires : goal.loop_failure-requires
loop_failure-requires g c =
    let r : FitsSigned w128 c.trip-trip.result = search rules in
    let near : AllWithinSize (2 ^ 33) c.inst.inside.at = subst (λ (x : Instance). AllWithinSize (2 ^ 33) x.at) (sym c.inst.view_is) c.requires.near in
    let kinds : c.level.inside.kind ≡ c.level-level.result.now.kind = ap (λ (l : Level). l.kind) c.level.view_is in
    let form : Reaches (stride_size c.level.inside.kind) (level_at c.args.self.now (c.block.inside.level - 1)).trip =
    subst (λ (l : Level). Reaches (stride_size c.level.inside.kind) l.trip) c.level-level.ensures.level
    (subst (λ (k : LoopKind). Reaches (stride_size k) c.level-level.result.now.trip) (sym kinds) c.level-level.ensures.reach) in
    let reach : stride_size c.level.inside.kind * unsigned_abs c.trip-trip.result ≤ 2 ^ 105 =
    subst (λ (z : ℤ). stride_size c.level.inside.kind * unsigned_abs z ≤ 2 ^ 105) (sym c.trip-trip.ensures) (trip-reach c.args.self.now (c.block.inside.level - 1) (stride_size c.level.inside.kind) c.inst.inside.at form near) in
    let strides : stride_size c.level.inside.kind ≤ 2 ^ 63 = subst (λ (k : LoopKind). stride_size k ≤ 2 ^ 63) (sym kinds) c.level-level.ensures.strides in
    (search rules, (search rules, (c.requires.few, (near, (simp to_z-of_z (trip-near (stride_size c.level.inside.kind) c.trip-trip.result (size-some c.level.inside.kind) reach), λ stride e. simp to_z-of_z (last-near c.level.inside.kind c.trip-trip.result reach strides stride e))))))
