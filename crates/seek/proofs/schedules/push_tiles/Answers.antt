use Rattle.std.proofs.Common.{◌≡◌, ◌+◌, ◌∙◌, ap, length, [], ◌∷◌, arith, length-append, pos}
use Rattle.nest_lang.specs.declared.command.Command.TheVariants.{Tile}
use Rattle.seek.proofs.ScriptLaws.{tiles-next}
use Rattle.seek.proofs.schedules.push_tiles.Goals as goal

pub loop-row-preserved : goal.loop-row-preserved
loop-row-preserved c =
    let (script, long) = c.loop-row.invariant in
    let from = c.loop-row.auto.row in
    let longer : length c.push.new.self ≡ length c.loop-row.script + 1 = ap length c.push.ensures ∙ length-append c.loop-row.script (Tile c.loop-row.row (pos 4) ∷ []) in (
      tiles-next c.loop-row.row c.args.script.now c.loop-row.script c.push.new.self from script c.push.ensures,
      omega (arith, long, longer, from),
    )
