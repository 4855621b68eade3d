use Rattle.std.proofs.Common.{◌∙◌, ap, sym, ◌+◌, ◌*◌, string_bytes}
use Rattle.nest_gen.specs.Draws.{next}
use Rattle.nest_gen.proofs.DrawLaws.{one-more, after-more}
use Rattle.nest_gen.proofs.texts.list.Goals as goal

pub loop-shortcut-preserved : goal.loop-shortcut-preserved
loop-shortcut-preserved c =
    let i = c.loop-shortcut.invariant in (
      one-more c.args.seed (64 * c.args.size) c.loop-shortcut._shortcut (64 * c.from-nodes.result) c.loop-shortcut.draws.latest c.draw-node.new.self.latest c.draw-node.result
          (string_bytes c.loop-shortcut.text) _ (string_bytes c.push_str.new.self) i.2 i.0 i.1 c.draw-node.ensures.latest c.draw-node.ensures.drawn (c.deref.ensures ∙ c.in_ok-past.ensures) c.in_ok-push_str.ensures.bytes,
      c.draw-node.ensures.latest ∙ ap next i.1 ∙ sym (after-more c.args.seed (c.loop-shortcut._shortcut + 1)),
      i.2,
      i.3,
    )
