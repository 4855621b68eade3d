use Rattle.std.proofs.Common.{◌∙◌, sym, ap, rules, FitsSigned, pos, neg_ℤ, ◌^◌, to_z}
use Rattle.std.specs.Int.{w64, w128}
use Rattle.std.proofs.lemmas.Int.{to_z-of_z}
use Rattle.plain_lemmas.proofs.IntegerLaws.{int_lt-false, FitsSigned-between}
use Rattle.skeletons.proofs.BoxLaws.{part-range}
use Rattle.skeletons.proofs.cell_box.tile_range.Goals as goal

pub returns : goal.returns
returns c =
    let a : FitsSigned w128 c.tile_ends-first.result.0 = search rules in
    let b : FitsSigned w128 c.tile_ends-first.result.1 = search rules in
    let l : FitsSigned w64 c.args.lead = search rules in
    let t : FitsSigned w64 c.args.tile = search rules in
    let e = simp to_z-of_z at c.tile_ends-first.ensures.first in
    let f = simp to_z-of_z at c.tile_ends-first.ensures.last in
    let u = int_lt-false (pos (2 ^ 59)) c.tile_ends-first.result.0 (simp to_z-of_z at c.if-first-gt-FARTHEST.false) in
    let v = int_lt-false c.tile_ends-first.result.1 (neg_ℤ (pos (2 ^ 59))) (simp to_z-of_z at c.if-last.false) in
    let w = sym (to_z-of_z w64 c.args.lead l) ∙ ap (to_z w64) c.if-lead-ne0.false in
    let r = part-range c.args.lead c.args.tile c.tile_ends-first.result.0 c.tile_ends-first.result.1 c.args.size c.requires.some c.requires.limit w e f u v in
    let x : FitsSigned w64 c.tile_ends-first.result.0 = FitsSigned-between w64 (neg_ℤ (pos (2 ^ 60))) c.tile_ends-first.result.0 (pos (2 ^ 60)) (search rules) (search rules) r.low_within.least r.low_within.greatest in
    let y : FitsSigned w64 c.tile_ends-first.result.1 = FitsSigned-between w64 (neg_ℤ (pos (2 ^ 60))) c.tile_ends-first.result.1 (pos (2 ^ 60)) (search rules) (search rules) r.high_within.least r.high_within.greatest in
    simp to_z-of_z r
