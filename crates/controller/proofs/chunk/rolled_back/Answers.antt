use Rattle.std.proofs.Common.{◌≡◌, ◌∙◌, sym, ap, subst, ℕ, ℤ, pos, ◌-ℤ◌, ◌<◌, ◌++◌, ◌∷◌, [], List, Option, length, FitsSigned, w64, to_z-of_z, arith, rules}
use Rattle.nest_lang.specs.declared.tree.Loop.{Loop}
use Rattle.nest_lang.specs.Blocks.{present_blocks}
use Rattle.nest_lang.specs.Turns.{finish_of_turned}
use Rattle.domain.specs.declared.chunk.Chunk.{Chunk}
use Rattle.domain.specs.Launches.{IsLaunched}
use Rattle.domain.specs.Shapes.{IsTableOf}
use Rattle.follow_chunk.specs.declared.task.Deviation as code
use Rattle.compare.specs.Compared.{IsDeviationOf}
use Rattle.report.specs.Places.{at_of}
use Rattle.report.specs.declared.line.At.{At}
use Rattle.report.specs.declared.line.Line.TheVariants as said
use Rattle.journeys.specs.Settings.{Setting, Ran, chunk_turns, next_chunk, words_at}
use Rattle.journeys.specs.Stages.{chunk_run_from}
use Rattle.controller.specs.declared.stage.Chosen.{Chosen}
use Rattle.controller.specs.declared.stage.Stage.{Stage}
use Rattle.controller.specs.declared.stage.Stage.TheVariants.{Chunks, Plainly}
use Rattle.controller.specs.Courses.{IsSetting, Led, given_up}
use Rattle.controller.proofs.PlainTurnLaws.{plain-led, difference-fits, done-few, next-fits, if-ok}
use Rattle.controller.proofs.NextChunkLaws.{chunk-some, first-fits, turns-fit, turns-are, turns_within-again}
use Rattle.controller.proofs.DeviationPlaceLaws.{deviation-place, table-some}
use Rattle.controller.proofs.ChunkWayLaws.{led-more, rolled-led, told-deviation}
use Rattle.controller.proofs.chunk.rolled_back.Goals as goal

pub unreachable-requires : goal.unreachable-requires
unreachable-requires g c =
    let t = c.args.task.pred.now in
    let s = c.args.course.now in
    let m = c.args.machine.now.moment in
    let told = told-deviation t s m c.run-turned.new.self.moment c.args.task.chunk c.new.result c.run-turned.result.1 (finish_of_turned c.run-turned.result.0) c.scalars.result.now c.close.result
    c.requires.placed (c.requires.task).some (c.requires.task).most c.requires.next c.new.ensures c.run-turned.ensures.ran c.run-turned.ensures.shown c.scalars.ensures.value c.close.ensures.first in
    c.requires.deviates (subst (λ (r : Option (code.Deviation g.row.D)). IsDeviationOf t (next_chunk s m) (chunk_run_from t s m) r) c.in_default.is told)

pub of-requires : goal.of-requires
of-requires g c =
    let t = c.args.task.pred.now in
    let s = c.args.course.now in
    let m = c.args.machine.now.moment in
    let told = told-deviation t s m c.run-turned.new.self.moment c.args.task.chunk c.new.result c.run-turned.result.1 (finish_of_turned c.run-turned.result.0) c.scalars.result.now c.close.result
    c.requires.placed (c.requires.task).some (c.requires.task).most c.requires.next c.new.ensures c.run-turned.ensures.ran c.run-turned.ensures.shown c.scalars.ensures.value c.close.ensures.first in
    let deviates = subst (λ (r : Option (code.Deviation g.row.D)). IsDeviationOf t (next_chunk s m) (chunk_run_from t s m) r) c.in-Some.is told in
    let table : IsTableOf c.args.task.scalars s.loops t = subst (λ (ls : List Loop). IsTableOf c.args.task.scalars ls t) c.requires.nest (c.requires.task).table in
    let here = deviation-place c.args.task.scalars s m t c.in-Some.deviation table (table-some g.row.D t (c.requires.task).shape) deviates in
    let present : c.in-Some.deviation.at.block < length (present_blocks c.course.inside.nest.now.loops) =
    subst (λ (ls : List Loop). c.in-Some.deviation.at.block < length (present_blocks ls)) (sym (ap (λ (s : Setting). s.loops) c.course.view_is)) here in
    let few = c.course.invariant.few in
    let deep = c.course.invariant.depth in
    (search rules, (c.requires.few, (omega (arith, few, deep), present)))

pub after_turns-requires : goal.after_turns-requires
after_turns-requires g c =
    let s = c.args.course.now in
    let m = c.args.machine.now.moment in
    let p = c.requires.placed in
    let ran = c.run-turned.ensures.ran in
    let done = done-few s m c.run-turned.new.self.moment _ ran.0 (finish_of_turned c.run-turned.result.0) p ran.1 in
    let here : FitsSigned w64 m.outer.next = next-fits s m p in
    let same : c.args.task.chunk.first ≡ m.outer.next = ap (λ (k : Chunk). k.first) c.requires.next in
    let fits : FitsSigned w64 c.args.task.chunk.first = subst (λ (z : ℤ). FitsSigned w64 z) (sym same) here in
    simp to_z-of_z (omega arith, subst (λ (z : ℤ). FitsSigned w64 (c.run-turned.new.self.moment.outer.next -ℤ z)) (sym same) (difference-fits m c.run-turned.new.self.moment ran.0 ran.1.outer done))

pub returns-clause-led : goal.returns-clause-led
returns-clause-led g c =
    let t = c.args.task.pred.now in
    let s = c.args.course.now in
    let m = c.args.machine.now.moment in
    let after = c.run-turned.new.self.moment in
    let p = c.requires.placed in
    let task = c.requires.task in
    let set : IsSetting g.row.D s = subst (λ (x : Setting). IsSetting g.row.D x) c.course.view_is c.course.invariant in
    let before = c.args.lines.now.items in
    let mid = c.push.new.self.items in
    let deviation = c.in-Some.deviation in
    let same : c.args.task.chunk.first ≡ m.outer.next = ap (λ (k : Chunk). k.first) c.requires.next in
    let fits = first-fits s m set p c.requires.turn c.args.task.chunk c.requires.next in
    let few = turns-fit s m set p c.requires.turn c.args.task.chunk c.requires.next in
    let turns = turns-are s m c.args.task.chunk task.some task.most c.requires.next in
    let told = told-deviation t s m after c.args.task.chunk c.new.result c.run-turned.result.1 (finish_of_turned c.run-turned.result.0) c.scalars.result.now c.close.result
    p task.some task.most c.requires.next c.new.ensures c.run-turned.ensures.ran c.run-turned.ensures.shown c.scalars.ensures.value c.close.ensures.first in
    let deviates = subst (λ (r : Option (code.Deviation g.row.D)). IsDeviationOf t (next_chunk s m) (chunk_run_from t s m) r) c.in-Some.is told in
    let launched : IsLaunched t (words_at m) (next_chunk s m) (task.launched).0 = subst (λ (k : Chunk). IsLaunched t (words_at m) k (task.launched).0) c.requires.next (task.launched).1 in
    let pushed : mid ≡ before ++ said.Rollback c.args.task.chunk.first c.args.task.chunk.turns c.of.result deviation.how ∷ [] = search rules in
    let line : mid ≡ before ++ said.Rollback m.outer.next (pos (chunk_turns s m)) (at_of s.loops deviation.at) deviation.how ∷ [] =
    pushed
    ∙ ap (λ (k : Chunk). before ++ said.Rollback k.first k.turns c.of.result deviation.how ∷ []) c.requires.next
    ∙ ap (λ (a : At). before ++ said.Rollback m.outer.next (pos (chunk_turns s m)) a deviation.how ∷ []) (c.of.ensures ∙ ap (λ (x : Setting). at_of x.loops deviation.at) c.course.view_is) in
    let ran = c.run-turned.ensures.ran in
    let all = subst (λ (k : ℕ). Ran s m k ran.0 (finish_of_turned c.run-turned.result.0) after) (turns ∙ sym (turns_within-again m.outer.left s.chunk)) ran.1 in
    if-ok _ _
    (λ stage is number schedule which.
    let chosen : Chosen g.row.D = record { pred = t; number = number } in
    let plain : c.after_turns.new.lines.items ≡ mid ++ said.Plain m.outer.next (after.outer.next -ℤ m.outer.next) ∷ [] =
    (simp to_z-of_z at is.1) ∙ ap (λ (z : ℤ). mid ++ said.Plain z (after.outer.next -ℤ z) ∷ []) same in
    subst (λ (k : Chunk). Led s (Chunks chosen) m before stage after c.after_turns.new.lines.items (given_up t schedule k)) (sym c.requires.next)
    (led-more s (Chunks chosen) (Plainly (chunk_turns s m)) stage m m after before mid c.after_turns.new.lines.items (given_up t schedule (next_chunk s m)) []
    (rolled-led s m set p c.requires.turn chosen before mid schedule deviation.at deviation.how (task.launched).0 which launched deviates line)
    (subst (λ (x : Stage g.row.D). Led s (Plainly (chunk_turns s m)) m mid x after c.after_turns.new.lines.items []) (sym is.0)
    (plain-led s (chunk_turns s m) m after ran.0 mid c.after_turns.new.lines.items p.keeps.loops_keep p c.requires.turn (chunk-some s m set p c.requires.turn)
    c.run-turned.ensures.position c.run-turned.ensures.count plain c.run-turned.result.0 all))))
    c.after_turns.result c.after_turns.ensures
