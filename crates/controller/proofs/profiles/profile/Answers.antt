use Rattle.std.proofs.Common.{◌≡◌, ℕ, ◌≤◌, List, [], ◌∙◌, ap, subst, sym, Some, true, false, arith, rules}
use Rattle.nest_lang.specs.Traces.{Observation}
use Rattle.nest_lang.specs.Turns.{finish_of_turned}
use Rattle.nest_lang.specs.declared.budget.Ending.{Ending}
use Rattle.profile.specs.FirstProfiles.{has_turn}
use Rattle.journeys.specs.Settings.{Setting, observed, profile_turns, turns_within}
use Rattle.controller.specs.declared.stage.Stage.TheVariants.{Profiles, Over}
use Rattle.controller.specs.Courses.{IsJudged, Led, ending_of}
use Rattle.controller.proofs.ProfileLaws.{kept-observed, profile-judged, profile-none, profile-stopped, profile-told, profile-used_up}
use Rattle.controller.proofs.PlainTurnLaws.{if-ok}
use Rattle.controller.proofs.profiles.profile.Goals as goal

pub returns-then-not-has_turn-clause-led : goal.returns-then-not-has_turn-clause-led
returns-then-not-has_turn-clause-led g c =
    let off : has_turn c.args.machine.now.moment.outer.left ≡ false = search rules in
    profile-none c.args.course.now c.args.machine.now.moment c.args.lines.now.items c.requires off

pub returns-then-not-has_turn-2-clause-led : goal.returns-then-not-has_turn-2-clause-led
returns-then-not-has_turn-2-clause-led g c =
    let m = c.args.machine.now.moment in
    let after = c.run-turned.new.self.moment in
    let ran = c.run-turned.ensures.ran in
    let turns : c.turns_within-turns.result ≡ profile_turns c.args.course.now m = c.turns_within-turns.ensures ∙ ap (λ (x : Setting). turns_within m.outer.left x.sample) c.course.view_is in
    let on : has_turn m.outer.left ≡ true = search rules in
    let off : has_turn after.outer.left ≡ false = search rules in
    let told = profile-told c.args.course.now m after c.turns_within-turns.result ran.0 (finish_of_turned c.run-turned.result.0) c.outer-first.result c.outer.result c.args.lines.now.items c.push.new.self.items c.requires ran.1
    c.run-turned.ensures.position c.run-turned.ensures.count c.outer-first.ensures c.outer.ensures c.in_ok-push.ensures.items in
    profile-used_up c.args.course.now m after ran.0 c.args.lines.now.items c.push.new.self.items c.requires on c.run-turned.ensures.position c.run-turned.ensures.count told g.row.D
    (rw (turns, c.in-Went.is) at ran.1) off

pub returns-in_ok-finish-in-Went-clause-led : goal.returns-in_ok-finish-in-Went-clause-led
returns-in_ok-finish-in-Went-clause-led g c =
    let m = c.args.machine.now.moment in
    let after = c.run-turned.new.self.moment in
    let ran = c.run-turned.ensures.ran in
    let turns : c.turns_within-turns.result ≡ profile_turns c.args.course.now m = c.turns_within-turns.ensures ∙ ap (λ (x : Setting). turns_within m.outer.left x.sample) c.course.view_is in
    let on : has_turn m.outer.left ≡ true = search rules in
    let more : has_turn after.outer.left ≡ true = search rules in
    let told = profile-told c.args.course.now m after c.turns_within-turns.result ran.0 (finish_of_turned c.run-turned.result.0) c.outer-first.result c.outer.result c.args.lines.now.items c.push.new.self.items c.requires ran.1
    c.run-turned.ensures.position c.run-turned.ensures.count c.outer-first.ensures c.outer.ensures c.in_ok-push.ensures.items in
    let r = rw (turns, c.in-Went.is) at ran.1 in
    let ended : c.run-turned.result.1 ≡ Some c.in_ok-finish-in-Went.field-0 = search rules in
    let kept : c.in_ok-finish-in-Went.field-0 ≡ observed c.args.course.now m (profile_turns c.args.course.now m) =
    kept-observed c.args.course.now m c.turns_within-turns.result c.new.result c.run-turned.result.1 c.in_ok-finish-in-Went.field-0 c.new.ensures ended c.run-turned.ensures.shown
    ∙ ap (λ (n : ℕ). observed c.args.course.now m n) turns in
    let some : 1 ≤ c.args.course.now.sample = let s = ap (λ (x : Setting). x.sample) c.course.view_is in let from = c.course.invariant.sample_from in omega (arith, s, from) in
    if-ok _ _
    (λ stage is. profile-judged c.args.course.now m after ran.0 c.args.lines.now.items c.push.new.self.items c.requires on c.run-turned.ensures.position c.run-turned.ensures.count told g.row.D stage c.judge-in-Went.new.lines.items some r more
    (subst (λ (os : List Observation). IsJudged c.args.course.now os c.push.new.self.items stage c.judge-in-Went.new.lines.items) kept (is m (profile_turns c.args.course.now m) kept)))
    c.judge-in-Went.result c.judge-in-Went.ensures

pub returns-in_default-clause-led : goal.returns-in_default-clause-led
returns-in_default-clause-led g c =
    let m = c.args.machine.now.moment in
    let after = c.run-turned.new.self.moment in
    let ran = c.run-turned.ensures.ran in
    let turns : c.turns_within-turns.result ≡ profile_turns c.args.course.now m = c.turns_within-turns.ensures ∙ ap (λ (x : Setting). turns_within m.outer.left x.sample) c.course.view_is in
    let on : has_turn m.outer.left ≡ true = search rules in
    let told = profile-told c.args.course.now m after c.turns_within-turns.result ran.0 (finish_of_turned c.run-turned.result.0) c.outer-first.result c.outer.result c.args.lines.now.items c.push.new.self.items c.requires ran.1
    c.run-turned.ensures.position c.run-turned.ensures.count c.outer-first.ensures c.outer.ensures c.in_ok-push.ensures.items in
    let e = c.run-turned.result.0 in
    let same : c.ending_of.result ≡ ending_of e = c.ending_of.ensures.value in
    subst (λ (x : Ending). Led {D = g.row.D} c.args.course.now Profiles m c.args.lines.now.items (Over x) after c.push.new.self.items []) (sym same)
    (profile-stopped c.args.course.now m after ran.0 c.args.lines.now.items c.push.new.self.items c.requires on c.run-turned.ensures.position c.run-turned.ensures.count told g.row.D e c.in_default.not-Went (rw turns at ran.1))
