use Rattle.std.proofs.Common.{◌≡◌, ◌+◌, ◌∙◌, ap, sym, arith}
use Rattle.std.proofs.lemmas.Int.{to_z-of_z}
use Rattle.nest_lang.specs.declared.command.Command.TheVariants.{Tile}
use Rattle.transform.specs.Drafts.{drafted_all}
use Rattle.transform.specs.Standards.{tiles}
use Rattle.transform.proofs.ScriptLaws.{drafted_all-goes, drafted_all-gone}
use Rattle.transform.proofs.StandardLaws.{tiles-step}
use Rattle.transform.proofs.standards.tiled.Goals as goal

pub returns-in_err-apply : goal.returns-in_err-apply
returns-in_err-apply g c =
    let range = c.ranges.size in
    let row = c.loop-row.row in
    let step = tiles-step row g.row.D c.args.size c.loop-row-test.true in
    let before = simp to_z-of_z at c.loop-row.invariant in
    let gone = simp to_z-of_z at c.in_err-apply.ensures in
    c.from_residual.ensures ∙ sym (before ∙ ap (drafted_all g.row.D c.loop-row.draft) step ∙ drafted_all-gone g.row.D c.loop-row.draft (Tile (row + 1) c.args.size) (tiles (row + 2) g.row.D c.args.size) gone)

pub loop-row-preserved : goal.loop-row-preserved
loop-row-preserved g c =
    let range = c.ranges.size in
    let row = c.loop-row.row in
    let step = tiles-step row g.row.D c.args.size c.loop-row-test.true in
    let next : (row + 1) + 1 ≡ row + 2 = omega arith in
    let before = simp to_z-of_z at c.loop-row.invariant in
    let goes = simp to_z-of_z at c.in_ok-apply.ensures in
    simp to_z-of_z (before ∙ ap (drafted_all g.row.D c.loop-row.draft) step ∙ drafted_all-goes g.row.D c.loop-row.draft c.apply.new.self (Tile (row + 1) c.args.size) (tiles (row + 2) g.row.D c.args.size) goes ∙ ap (λ i. drafted_all g.row.D c.apply.new.self (tiles i g.row.D c.args.size)) (sym next))
