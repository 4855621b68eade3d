use Rattle.std.proofs.Common.{◌∙◌, ap, sym, ◌≡◌, ◌<◌, suc, drop, drop-cons, length, [], ◌∷◌, Some, None, arith}
use Rattle.std.specs.Prelude.{option_map}
use Rattle.std.proofs.lemmas.List.{drop_all}
use Rattle.transform.specs.Drafts.{Draft, drafted_all, new_draft}
use Rattle.transform.specs.Scripts.{schedule_from}
use Rattle.transform.proofs.ScriptLaws.{drafted_all-gone, schedule_of-drafted}
use Rattle.transform.proofs.scripts.schedule_of.Goals as goal

pub returns : goal.returns
returns g c =
    let ended : drop c.loop-command.command-index c.args.script.now ≡ [] = drop_all c.loop-command.command-index c.args.script.now c.loop-command-test.false in
    let drafted : drafted_all g.row.D (new_draft g.row.D) c.args.script.now ≡ Some c.loop-command.draft = c.loop-command.invariant ∙ ap (drafted_all g.row.D c.loop-command.draft) ended in
    ap Some c.finish.ensures ∙ sym (schedule_of-drafted g.row.D c.args.script.now ∙ ap (option_map (λ (d : Draft). schedule_from d.parts)) drafted)

pub returns-in_err-apply : goal.returns-in_err-apply
returns-in_err-apply g c =
    let script = c.args.script.now in
    let i = c.loop-command.command-index in
    let item = c.command-item.result in
    let inside : i < length script = omega (arith, c.loop-command-test.true) in
    let front : drop i script ≡ item ∷ drop (suc i) script = drop-cons script i item inside ∙ ap (λ x. x ∷ drop (suc i) script) (sym c.command-item.is) in
    let gone : drafted_all g.row.D (new_draft g.row.D) script ≡ None = c.loop-command.invariant ∙ ap (drafted_all g.row.D c.loop-command.draft) front ∙ drafted_all-gone g.row.D c.loop-command.draft item (drop (suc i) script) c.in_err-apply.ensures in
    c.from_residual.ensures ∙ sym (schedule_of-drafted g.row.D script ∙ ap (option_map (λ (d : Draft). schedule_from d.parts)) gone)
