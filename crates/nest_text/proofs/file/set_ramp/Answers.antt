use Rattle.std.proofs.Common.{◌≡◌, ◌∙◌, ◌+◌, ◌*◌, ◌+ℤ◌, ◌*ℤ◌, ℤ, pos, ap, sym, length, FitsSigned, w64, to_z, of_z, arith}
use Rattle.std.specs.Prelude.{slice_set}
use Rattle.std.proofs.lemmas.Int.{to_z-of_z}
use Rattle.std.proofs.lemmas.List.{length-set}
use Rattle.nest_text.proofs.StoredItemLaws.{ramp_from, ramp-from-next, ramp-from-all, ramp_fits-value}
use Rattle.nest_text.proofs.file.set_ramp.Goals as goal

pub value_of_turn-requires : goal.value_of_turn-requires
value_of_turn-requires c =
    let start : FitsSigned w64 c.args.start = c.ranges.start in
    let growth : FitsSigned w64 c.args.growth = c.ranges.growth in
    simp to_z-of_z (ramp_fits-value (length c.args.memory.now) c.args.first c.args.count c.args.stride c.words.number c.args.start c.args.growth c.requires c.words-test.true start)

pub words-preserved : goal.words-preserved
words-preserved c =
    let s : ℤ = to_z w64 (of_z w64 c.args.start) in
    let g : ℤ = to_z w64 (of_z w64 c.args.growth) in
    let start : FitsSigned w64 c.args.start = c.ranges.start in
    let growth : FitsSigned w64 c.args.growth = c.ranges.growth in
    let fits : FitsSigned w64 (s +ℤ g *ℤ pos c.words.number) =
    simp to_z-of_z (ramp_fits-value (length c.args.memory.now) c.args.first c.args.count c.args.stride c.words.number c.args.start c.args.growth c.requires c.words-test.true start) in
    let value : to_z w64 (of_z w64 c.value_of_turn.result) ≡ s +ℤ g *ℤ pos c.words.number =
    ap (λ z. to_z w64 (of_z w64 z)) c.value_of_turn.ensures ∙ to_z-of_z w64 (s +ℤ g *ℤ pos c.words.number) fits in (
      c.words.invariant.0
          ∙ ramp-from-next c.words.number c.args.count c.args.first c.args.stride s g c.words.memory c.words-test.true
          ∙ ap (λ z. ramp_from (c.words.number + 1) c.args.count c.args.first c.args.stride s g (slice_set c.words.memory (c.args.first + c.args.stride * c.words.number) z)) (sym value),
      length-set c.words.memory (c.args.first + c.args.stride * c.words.number) (to_z w64 (of_z w64 c.value_of_turn.result)) ∙ c.words.invariant.1,
    )

pub returns : goal.returns
returns c =
    let s : ℤ = to_z w64 (of_z w64 c.args.start) in
    let g : ℤ = to_z w64 (of_z w64 c.args.growth) in
    let start : FitsSigned w64 c.args.start = c.ranges.start in
    let growth : FitsSigned w64 c.args.growth = c.ranges.growth in
    let e = sym (c.words.invariant.0 ∙ ramp-from-all c.words.number c.args.count c.args.first c.args.stride s g c.words.memory (omega (arith, c.words-test.false))) in
    simp to_z-of_z at e
