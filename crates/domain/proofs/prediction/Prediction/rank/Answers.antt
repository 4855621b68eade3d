use Rattle.std.proofs.Common.{◌≡◌, ◌∙◌, sym, ap, ◌<◌, ◌≤◌, List, true, length, get_or, arith}
use Rattle.std.specs.List.{position}
use Rattle.domain.specs.Tables.{Table, Block, is_block, no_block}
use Rattle.domain.proofs.TableLaws.{block_at-is, position-found, position-none}
use Rattle.domain.proofs.prediction.Prediction.rank.Goals as goal

pub returns-then-is-clause-rank : goal.returns-then-is-clause-rank
returns-then-is-clause-rank g c =
    let blocks : List Block = c.deref-block-items.result.now in
    let same : blocks ≡ c.args.self.now.blocks = c.deref-block-items.ensures.value ∙ ap (λ (t : Table). t.blocks) c.self.view_is in
    let inside : c.loop-rank.rank < length blocks = omega arith in
    let here : is_block c.args.part c.args.level (get_or blocks c.loop-rank.rank no_block) ≡ true = ap (is_block c.args.part c.args.level) (block_at-is blocks c.loop-rank.rank c.block-item.result inside c.block-item.is) ∙ sym c.is.ensures ∙ c.if-is.true in
    sym (ap (position (is_block c.args.part c.args.level)) (sym same) ∙ position-found (is_block c.args.part c.args.level) blocks no_block c.loop-rank.rank inside c.loop-rank.invariant here)

pub returns-clause-rank : goal.returns-clause-rank
returns-clause-rank g c =
    let blocks : List Block = c.deref-block-items.result.now in
    let same : blocks ≡ c.args.self.now.blocks = c.deref-block-items.ensures.value ∙ ap (λ (t : Table). t.blocks) c.self.view_is in
    let past : length blocks ≤ c.loop-rank.rank = omega arith in
    sym (ap (position (is_block c.args.part c.args.level)) (sym same) ∙ position-none (is_block c.args.part c.args.level) blocks no_block c.loop-rank.rank past c.loop-rank.invariant)
