use Rattle.std.proofs.Common.{◌≡◌, ap, subst, ◌∙◌, ℕ, ◌<◌, length, List, Some, slice_get, get_or, rules, arith}
use Rattle.std.proofs.lemmas.Option.{slice_get-get_or}
use Rattle.nest_lang.specs.declared.tree.BlockRef.{BlockRef}
use Rattle.nest_lang.specs.declared.tree.Part.TheVariants.{Head}
use Rattle.nest_lang.specs.Blocks.{block_ref, present_blocks}
use Rattle.domain.proofs.ShapeLaws.{accesses-short}
use Rattle.profile.specs.Parts.{AreBlockFits}
use Rattle.profile.specs.Fits.{IsFitEnd}
use Rattle.profile.proofs.EndLaws.{handed-on}
use Rattle.profile.proofs.WholeLaws.{more-block, block-end}
use Rattle.profile.proofs.nest_fit.fit_blocks.Goals as goal

found : (present items : List BlockRef) (rank : ℕ) → items ≡ present → rank < length items → slice_get present rank ≡ Some (get_or items rank (block_ref Head 0))
found present items rank is within = subst (λ (xs : List BlockRef). slice_get xs rank ≡ Some (get_or items rank (block_ref Head 0))) is (slice_get-get_or items rank (block_ref Head 0) within)

pub block-requires : goal.block-requires
block-requires g c =
    let few = c.requires.few in
    let loops = c.args.nest.now.loops in
    let items : c.as_slice-block-items.result.now ≡ present_blocks loops = c.as_slice-block-items.ensures.value ∙ c.blocks-2.ensures in
    let at = found (present_blocks loops) c.as_slice-block-items.result.now c.loop-rank.rank items c.loop-rank-test.true in
    (search rules, (search rules, (few, accesses-short c.args.scalars loops c.loop-rank.rank _ c.requires.keeps at)))

pub returns-in_err-fit : goal.returns-in_err-fit
returns-in_err-fit g c =
    let loops = c.args.nest.now.loops in
    let o = c.args.samples.now in
    let items : c.as_slice-block-items.result.now ≡ present_blocks loops = c.as_slice-block-items.ensures.value ∙ c.blocks-2.ensures in
    let at = found (present_blocks loops) c.as_slice-block-items.result.now c.loop-rank.rank items c.loop-rank-test.true in
    handed-on c.from_residual.result _ (IsFitEnd g.row.D c.args.scalars loops o) c.in_err-fit.field-0.0 c.from_residual.ensures
    (block-end g.row.D c.args.scalars loops o c.loop-rank.rank c.loop-rank.blocks.items c.loop-rank.bounds.items _ c.in_err-fit.field-0.0 c.loop-rank.invariant at c.in_err-fit.ensures)

pub loop-rank-preserved : goal.loop-rank-preserved
loop-rank-preserved g c =
    let loops = c.args.nest.now.loops in
    let o = c.args.samples.now in
    let items : c.as_slice-block-items.result.now ≡ present_blocks loops = c.as_slice-block-items.ensures.value ∙ c.blocks-2.ensures in
    let at = found (present_blocks loops) c.as_slice-block-items.result.now c.loop-rank.rank items c.loop-rank-test.true in
    more-block g.row.D c.args.scalars loops o c.loop-rank.rank c.loop-rank.blocks.items c.push.new.self.items c.loop-rank.bounds.items c.push-in-loop-rank.new.self.items _ c.in_ok-fit.fit.forms c.in_ok-fit.fit.bounds
    c.loop-rank.invariant at c.in_ok-fit.ensures c.in_ok-push.ensures.items c.in_ok-push-2.ensures.items

pub returns : goal.returns
returns g c =
    let items : c.as_slice-block-items.result.now ≡ present_blocks c.args.nest.now.loops = c.as_slice-block-items.ensures.value ∙ c.blocks-2.ensures in
    let size : length c.as_slice-block-items.result.now ≡ length (present_blocks c.args.nest.now.loops) = ap (λ (xs : List BlockRef). length xs) items in
    let n : c.loop-rank.rank ≡ length (present_blocks c.args.nest.now.loops) = omega arith in
    subst (λ (k : ℕ). AreBlockFits g.row.D c.args.scalars c.args.nest.now.loops c.args.samples.now k c.loop-rank.blocks.items c.loop-rank.bounds.items) n c.loop-rank.invariant
