use Rattle.std.proofs.Common.{◌≡◌, ap, subst, ◌∙◌, ℕ, ◌++◌, ◌<◌, length, List, Some, slice_get, get_or, rules, arith}
use Rattle.std.specs.List.{flat_map, range_with_len}
use Rattle.std.proofs.lemmas.Option.{slice_get-get_or}
use Rattle.nest_lang.specs.declared.tree.BlockRef.{BlockRef}
use Rattle.nest_lang.specs.declared.tree.Part.TheVariants.{Head}
use Rattle.nest_lang.specs.Blocks.{block_ref, present_blocks}
use Rattle.domain.proofs.ShapeLaws.{accesses-short}
use Rattle.listing.specs.Lists.{block_forms}
use Rattle.listing.proofs.FormLaws.{block-at, more-forms}
use Rattle.listing.proofs.fitted.Fitted.list_forms.Goals as goal

found : (present items : List BlockRef) (rank : ℕ) → items ≡ present → rank < length items → slice_get present rank ≡ Some (get_or items rank (block_ref Head 0))
found present items rank is within = subst (λ (xs : List BlockRef). slice_get xs rank ≡ Some (get_or items rank (block_ref Head 0))) is (slice_get-get_or items rank (block_ref Head 0) within)

pub list-requires : goal.list-requires
list-requires g c =
    let loops = c.args.self.now.nest.now.loops in
    let items : c.as_slice-block-items.result.now ≡ present_blocks loops = c.as_slice-block-items.ensures.value ∙ c.blocks-2.ensures in
    let at = found (present_blocks loops) c.as_slice-block-items.result.now c.loop-rank.rank items c.loop-rank-test.true in
    (search rules, (search rules, accesses-short c.args.scalars loops c.loop-rank.rank _ c.requires.keeps at))

pub loop-rank-preserved : goal.loop-rank-preserved
loop-rank-preserved g c =
    let loops = c.args.self.now.nest.now.loops in
    let items : c.as_slice-block-items.result.now ≡ present_blocks loops = c.as_slice-block-items.ensures.value ∙ c.blocks-2.ensures in
    let block = get_or c.as_slice-block-items.result.now c.loop-rank.rank (block_ref Head 0) in
    more-forms c.args.scalars loops c.args.self.now.pred.now c.loop-rank.rank block c.args.lines.now.items c.loop-rank.lines.items c.list.new.lines.items (block-at loops c.as_slice-block-items.result.now c.loop-rank.rank items) c.loop-rank.invariant c.in_ok-list.ensures

pub returns : goal.returns
returns g c =
    let loops = c.args.self.now.nest.now.loops in
    let items : c.as_slice-block-items.result.now ≡ present_blocks loops = c.as_slice-block-items.ensures.value ∙ c.blocks-2.ensures in
    let size : length c.as_slice-block-items.result.now ≡ length (present_blocks loops) = ap (λ (xs : List BlockRef). length xs) items in
    let n : c.loop-rank.rank ≡ length (present_blocks loops) = omega arith in
    subst (λ (k : ℕ). c.loop-rank.lines.items ≡ c.args.lines.now.items ++ flat_map (block_forms c.args.scalars loops c.args.self.now.pred.now) (range_with_len 0 k)) n c.loop-rank.invariant
