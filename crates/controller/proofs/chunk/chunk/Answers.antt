use Rattle.std.proofs.Common.{◌≡◌, refl, ◌∙◌, sym, ap, subst, ℕ, pos, ◌≤ℤ◌, ◌^◌, ◌++◌, ◌∷◌, [], true, false, w64, to_z, of_z, arith, rules}
use Rattle.nest_lang.specs.declared.state.Outer.{Outer}
use Rattle.domain.specs.declared.chunk.Chunk.{Chunk}
use Rattle.domain.specs.Launches.{IsLaunched, IsHeld}
use Rattle.profile.specs.FirstProfiles.{has_turn}
use Rattle.report.specs.Places.{at_of}
use Rattle.report.specs.declared.line.Line.{Line}
use Rattle.report.specs.declared.line.Line.TheVariants as said
use Rattle.journeys.specs.Settings.{Setting, turns_within, chunk_turns, next_chunk, words_at}
use Rattle.controller.specs.declared.stage.Stage.TheVariants.{Chunks, Plainly, Over}
use Rattle.nest_lang.specs.declared.budget.Ending.TheVariants.{Ended}
use Rattle.controller.specs.Courses.{IsSetting, Led}
use Rattle.controller.proofs.NextChunkLaws.{turns-from, turns-to, first-from, first-soon, next-made}
use Rattle.controller.proofs.StageLaws.{led-with-none}
use Rattle.controller.proofs.ChunkWayLaws.{ended-led, held-led, none-broke}
use Rattle.controller.proofs.PlainTurnLaws.{if-err}
use Rattle.journeys.specs.Stages as stages
use Rattle.controller.proofs.chunk.chunk.Goals as goal

pub returns-then-not-has_turn-clause-led : goal.returns-then-not-has_turn-clause-led
returns-then-not-has_turn-clause-led g c =
    let off : has_turn c.args.machine.now.moment.outer.left ≡ false = search rules in
    led-with-none c.args.course.now (Chunks c.args.chosen) c.args.machine.now c.args.lines.now.items (g.C.Crew.handed c.args.crew.now) (Over Ended) c.args.machine.now c.args.lines.now.items
    (ended-led c.args.course.now c.args.machine.now.moment c.args.chosen c.args.lines.now.items c.requires.placed off) refl

pub launch-requires : goal.launch-requires
launch-requires g c =
    let s = c.args.course.now in
    let m = c.args.machine.now.moment in
    let p = c.requires.placed in
    let set : IsSetting g.row.D s = subst (λ (x : Setting). IsSetting g.row.D x) c.course.view_is c.course.invariant in
    let on : has_turn m.outer.left ≡ true = sym c.has_turn.ensures ∙ c.if-not-has_turn.false in
    let here : c.outer.result.next ≡ m.outer.next = ap (λ (o : Outer). o.next) c.outer.ensures in
    let turns : c.turns_within-turns.result ≡ chunk_turns s m = c.turns_within-turns.ensures ∙ ap (λ (x : Setting). turns_within m.outer.left x.chunk) c.course.view_is in
    let next = next-made s m set p on c.outer.result.next c.turns_within-turns.result here turns in (
      omega arith,
      (
        search rules,
        (
          c.course.invariant.few,
          (
            subst (λ (k : Chunk). pos 0 ≤ℤ k.first) (sym next) (first-from s m set p on),
            (
              subst (λ (k : Chunk). k.first ≤ℤ pos (2 ^ 32)) (sym next) (first-soon s m set p on),
              (
                subst (λ (k : Chunk). pos 1 ≤ℤ k.turns) (sym next) (turns-from s m set p on),
                subst (λ (k : Chunk). k.turns ≤ℤ pos 1024) (sym next) (turns-to s m set p on),
              ),
            ),
          ),
        ),
      ),
    )

pub launched-requires : goal.launched-requires
launched-requires g c =
    let s = c.args.course.now in
    let m = c.args.machine.now.moment in
    let p = c.requires.placed in
    let t = c.args.chosen.pred in
    let set : IsSetting g.row.D s = subst (λ (x : Setting). IsSetting g.row.D x) c.course.view_is c.course.invariant in
    let on : has_turn m.outer.left ≡ true = sym c.has_turn.ensures ∙ c.if-not-has_turn.false in
    let here : c.outer.result.next ≡ m.outer.next = ap (λ (o : Outer). o.next) c.outer.ensures in
    let turns : c.turns_within-turns.result ≡ chunk_turns s m = c.turns_within-turns.ensures ∙ ap (λ (x : Setting). turns_within m.outer.left x.chunk) c.course.view_is in
    let next = next-made s m set p on c.outer.result.next c.turns_within-turns.result here turns in
    let launched : IsLaunched t (words_at m) (record { first = to_z w64 (of_z w64 c.outer.result.next); turns = to_z w64 c.turns_within-turns.result }) c.in-Ok.field-0.instances =
    subst (λ (n : ℕ). IsLaunched t (pos n) (record { first = to_z w64 (of_z w64 c.outer.result.next); turns = to_z w64 c.turns_within-turns.result }) c.in-Ok.field-0.instances) c.word_count.ensures c.in-Ok.ensures.launched in
    (c.type_bounds.sync-C-Rt, (c.type_bounds.sync-C-Pass, (omega arith, (omega arith, (omega arith, (p, (on, (c.requires.chosen, (next, ((c.in-Ok.field-0.instances, launched), c.requires.epoch))))))))))

pub returns-in_ok-push-in-Err-clause-led : goal.returns-in_ok-push-in-Err-clause-led
returns-in_ok-push-in-Err-clause-led g c =
    let s = c.args.course.now in
    let m = c.args.machine.now.moment in
    let p = c.requires.placed in
    let t = c.args.chosen.pred in
    let held = c.in-Err.held in
    let before = c.args.lines.now.items in
    let lines = c.push.new.self.items in
    let set : IsSetting g.row.D s = subst (λ (x : Setting). IsSetting g.row.D x) c.course.view_is c.course.invariant in
    let on : has_turn m.outer.left ≡ true = sym c.has_turn.ensures ∙ c.if-not-has_turn.false in
    let here : c.outer.result.next ≡ m.outer.next = ap (λ (o : Outer). o.next) c.outer.ensures in
    let turns : c.turns_within-turns.result ≡ chunk_turns s m = c.turns_within-turns.ensures ∙ ap (λ (x : Setting). turns_within m.outer.left x.chunk) c.course.view_is in
    let next = next-made s m set p on c.outer.result.next c.turns_within-turns.result here turns in
    let is : IsHeld t (words_at m) (next_chunk s m) held.at held.why =
    subst (λ (k : Chunk). IsHeld t (words_at m) k held.at held.why) next
    (subst (λ (n : ℕ). IsHeld t (pos n) (record { first = to_z w64 (of_z w64 c.outer.result.next); turns = to_z w64 c.turns_within-turns.result }) held.at held.why) c.word_count.ensures c.in-Err.ensures.held) in
    let pushed : lines ≡ before ++ c.held_line.result ∷ [] = c.in_ok-push-in-Err.ensures.items in
    let line = pushed ∙ ap (λ (l : Line). before ++ l ∷ []) c.held_line.ensures ∙ ap (λ (k : Chunk). before ++ said.Held k.first k.turns (at_of s.loops held.at) held.why ∷ []) next in
    led-with-none s (Chunks c.args.chosen) c.args.machine.now before (g.C.Crew.handed c.args.crew.now) (Plainly c.turns_within-turns.result) c.args.machine.now lines
    (subst (λ (n : ℕ). Led s (Chunks c.args.chosen) m before (Plainly n) m lines []) (sym turns) (held-led s m set p on c.args.chosen before lines held.at held.why is line)) refl

pub returns-in_err-push-in-Err-clause-broke : goal.returns-in_err-push-in-Err-clause-broke
returns-in_err-push-in-Err-clause-broke g c =
    let handed = g.C.Crew.handed c.args.crew.now in
    if-err (none-broke c.args.course.now (stages.Chunks c.args.chosen.pred c.args.chosen.number) c.args.machine.now handed handed refl) _
