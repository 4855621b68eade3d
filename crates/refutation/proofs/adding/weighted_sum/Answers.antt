use Rattle.std.proofs.Common.{◌≡◌, ◌^◌, ℤ, ◌+ℤ◌, ◌*ℤ◌, FitsSigned, lit<, to_z, of_z}
use Rattle.std.specs.Int.{w128}
use Rattle.std.proofs.lemmas.Int.{fits_signed_mul, to_z-of_z}
use Rattle.fourier_motzkin.proofs.SizeLaws.{weighted-within, weighted-fits}
use Rattle.refutation.proofs.adding.weighted_sum.Goals as goal

sum-fits : (q x p y : ℤ) → FitsSigned w128 q → FitsSigned w128 x → FitsSigned w128 p → FitsSigned w128 y → FitsSigned w128 (q *ℤ x) → FitsSigned w128 (p *ℤ y) → FitsSigned w128 (q *ℤ x +ℤ p *ℤ y) → FitsSigned w128 (to_z w128 (of_z w128 (to_z w128 (of_z w128 q) *ℤ to_z w128 (of_z w128 x))) +ℤ to_z w128 (of_z w128 (to_z w128 (of_z w128 p) *ℤ to_z w128 (of_z w128 y))))
sum-fits q x p y fq fx fp fy first second sum = simp to_z-of_z sum

pub overflow_add-result : goal.overflow_add-result
overflow_add-result c =
    let first : FitsSigned w128 (c.args.p *ℤ c.args.x) = fits_signed_mul w128 c.args.p c.args.x (2 ^ 62) (2 ^ 62) c.requires.p c.requires.x (lit< tt) in
    let second : FitsSigned w128 (c.args.q *ℤ c.args.y) = fits_signed_mul w128 c.args.q c.args.y (2 ^ 62) (2 ^ 62) c.requires.q c.requires.y (lit< tt) in
    sum-fits c.args.p c.args.x c.args.q c.args.y c.ranges.p c.ranges.x c.ranges.q c.ranges.y first second (weighted-fits c.args.p c.args.x c.args.q c.args.y c.requires.p c.requires.x c.requires.q c.requires.y)

computed : (q x p y : ℤ) → FitsSigned w128 q → FitsSigned w128 x → FitsSigned w128 p → FitsSigned w128 y → FitsSigned w128 (q *ℤ x) → FitsSigned w128 (p *ℤ y) → FitsSigned w128 (q *ℤ x +ℤ p *ℤ y) → to_z w128 (of_z w128 (to_z w128 (of_z w128 (to_z w128 (of_z w128 q) *ℤ to_z w128 (of_z w128 x))) +ℤ to_z w128 (of_z w128 (to_z w128 (of_z w128 p) *ℤ to_z w128 (of_z w128 y))))) ≡ q *ℤ x +ℤ p *ℤ y
computed q x p y fq fx fp fy first second sum = simp to_z-of_z

pub returns-clause-value : goal.returns-clause-value
returns-clause-value c =
    let first : FitsSigned w128 (c.args.p *ℤ c.args.x) = fits_signed_mul w128 c.args.p c.args.x (2 ^ 62) (2 ^ 62) c.requires.p c.requires.x (lit< tt) in
    let second : FitsSigned w128 (c.args.q *ℤ c.args.y) = fits_signed_mul w128 c.args.q c.args.y (2 ^ 62) (2 ^ 62) c.requires.q c.requires.y (lit< tt) in
    computed c.args.p c.args.x c.args.q c.args.y c.ranges.p c.ranges.x c.ranges.q c.ranges.y first second (weighted-fits c.args.p c.args.x c.args.q c.args.y c.requires.p c.requires.x c.requires.q c.requires.y)

pub returns-clause-size : goal.returns-clause-size
returns-clause-size c = rw (returns-clause-value c) (weighted-within c.args.p c.args.x c.args.q c.args.y c.requires.p c.requires.x c.requires.q c.requires.y)
