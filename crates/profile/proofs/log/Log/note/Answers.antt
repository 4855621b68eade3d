use Rattle.std.proofs.Common.{◌∙◌, ap, take, ℕ, List, ◌++◌, ◌∷◌, [], FitsSigned, w64, rules}
use Rattle.std.proofs.lemmas.Int.{to_z-of_z}
use Rattle.nest_lang.specs.Traces.{Observation}
use Rattle.block_exec.specs.Watches.{observed}
use Rattle.profile.specs.Logs.{told_value}
use Rattle.profile.proofs.LogLaws.{log-shown}
use Rattle.profile.proofs.log.Log.note.Goals as goal

pub returns : goal.returns
returns c =
    let fits : FitsSigned w64 c.args.value = search rules in
    let kept = rw (to_z-of_z w64 c.args.value fits) at c.in_ok-push.ensures.items in
    let step = c.in_ok-turn_to.ensures in
    let begins = ap (λ (n : ℕ). take n c.turn_to.new.self.counters.items) c.in-Ok.ensures.1 ∙ step.2 in
    let shown = log-shown c.turn_to.new.self.items.items c.push.new.self.items c.turn_to.new.self.counters.items c.args.counters.now c.args.shown c.in-Ok.level c.args.value kept step.0 begins in
    (shown.0, shown.1 ∙ ap (λ (os : List Observation). os ++ observed c.args.shown.block c.args.counters.now c.args.shown.what (told_value c.args.shown.what c.args.value) ∷ []) step.1)
