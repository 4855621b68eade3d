use Rattle.std.proofs.Common.{◌≡◌, sym, ◌∙◌, ap, subst, ℕ, [], length, take, arith, rules}
use Rattle.std.specs.Prelude.{◌^◌, option_map}
use Rattle.nest_lang.specs.declared.tree.BlockRef.{BlockRef}
use Rattle.nest_lang.specs.declared.tree.Head.{Head}
use Rattle.nest_lang.specs.Accesses.{block_accesses, head_accesses}
use Rattle.nest_lang.specs.Blocks.{head_at, statements_of, counters_of}
use Rattle.nest_lang.specs.Lookups.{Expectation}
use Rattle.nest_lang.specs.Loops.{frame_of}
use Rattle.nest_lang.specs.Rules.{strides}
use Rattle.nest_lang.specs.Stores.{store_of}
use Rattle.nest_lang.specs.Traces.{Trace, cut}
use Rattle.domain.specs.Tables.{Table, counters}
use Rattle.domain.specs.Instances.{block_of}
use Rattle.follow.specs.Followed.{occurrence_at}
use Rattle.follow.specs.Verifies.{VerifiesOwn}
use Rattle.follow.proofs.VerifiedLaws.{verified-block}
use Rattle.follow.specs.Told.{told}
use Rattle.follow_chunk.specs.Tasks.{task_of}
use Rattle.follow_chunk.specs.Predicted.{scalars_at, interval_at}
use Rattle.follow_chunk.specs.Items.{around_of}
use Rattle.follow_chunk.proofs.NestInstanceLaws.{counters-here, none-head, strides-here, head-same}
use Rattle.follow_chunk.proofs.PlacingLaws.{nest-of, in-turns}
use Rattle.follow_chunk.proofs.PredictingLaws.{length-scalars}
use Rattle.follow_chunk.proofs.RunningLaws.{run-block, run-head, few-scalars, count-here}
use Rattle.follow_chunk.proofs.LeftMemoryLaws.{changes-nothing, changes-block, closes-small}
use Rattle.follow_chunk.proofs.OwnAccessLaws.{own-block, own-head}
use Rattle.follow_chunk.proofs.task.Task.follow_from.Goals as goal

pub values-values-requires : goal.values-values-requires
values-values-requires g c =
    let self = c.args.self.now in
    let task = c.requires.can.task in
    let x = c.args.foreseen.now.inst.now in
    let p = c.requires.can.predicted in
    let counts : c.in-Some.loops ≡ counters self.pred.now (block_of self.pred.now x) = (let e = sym c.in-Some.is ∙ c.counters.ensures ∙ ap (counters_of self.nest.now.loops) c.block-block.ensures ∙ counters-here g.row.D self.scalars self.nest.now.loops self.pred.now self.outer (nest-of g.row.D (task_of self) task.0 task.1) x (in-turns g.row.D (task_of self) task.0 task.1 x p) in cc) in
    search rules

pub site-site-requires : goal.site-site-requires
site-site-requires g c =
    let self = c.args.self.now in
    let task = c.requires.can.task in
    let x = c.args.foreseen.now.inst.now in
    let p = c.requires.can.predicted in
    let counts : c.in-Some.loops ≡ counters self.pred.now (block_of self.pred.now x) = (let e = sym c.in-Some.is ∙ c.counters.ensures ∙ ap (counters_of self.nest.now.loops) c.block-block.ensures ∙ counters-here g.row.D self.scalars self.nest.now.loops self.pred.now self.outer (nest-of g.row.D (task_of self) task.0 task.1) x (in-turns g.row.D (task_of self) task.0 task.1 x p) in cc) in
    let values = c.values-values.ensures in
    search rules

pub returns-in-Some-statements-clause-run : goal.returns-in-Some-statements-clause-run
returns-in-Some-statements-clause-run g c =
    let self = c.args.self.now in
    let task = c.requires.can.task in
    let x = c.args.foreseen.now.inst.now in
    let p = c.requires.can.predicted in
    let t = self.pred.now in
    let loops = self.nest.now.loops in
    let counts : c.in-Some.loops ≡ counters t (block_of t x) = (let e = sym c.in-Some.is ∙ c.counters.ensures ∙ ap (counters_of loops) c.block-block.ensures ∙ counters-here g.row.D self.scalars self.nest.now.loops self.pred.now self.outer (nest-of g.row.D (task_of self) task.0 task.1) x (in-turns g.row.D (task_of self) task.0 task.1 x p) in cc) in
    let frames = λ (e : Expectation). c.site-site.ensures e ∙ ap (λ (r : BlockRef). frame_of e r.part r.level (around_of t loops self.outer (take c.in-Some.loops x.at))) c.block-block.ensures
    ∙ ap (frame_of e (block_of t x).part (block_of t x).level) (ap (λ (n : ℕ). around_of t loops self.outer (take n x.at)) counts) in
    let intervals = interval_at c.args.foreseen.now.pred.now x in
    let each = λ (access : ℕ). ap (λ (u : Table). interval_at u x access) (sym c.requires.can.pred) in
    let begins = c.requires.begins in
    let closes = ap (λ (u : Table). scalars_at u c.args.foreseen.now.next) c.requires.can.pred ∙ c.requires.can.next in
    let is = ap (statements_of loops) (sym c.block-block.ensures) ∙ sym c.statements.ensures ∙ ap (option_map (λ ss. ss.now)) c.in-Some-statements.is in
    let owned : VerifiesOwn _ intervals (block_accesses c.in-Some-statements.statements.now) = subst (λ (u : Table). VerifiesOwn (g.P.Port.expects c.args.port.now) (interval_at u x) (block_accesses c.in-Some-statements.statements.now)) (sym c.requires.can.pred) (own-block g.row.D (task_of self) task.0 x task.1 p (g.P.Port.expects c.args.port.now) c.requires.can.own c.in-Some-statements.statements.now is) in
    run-block g.row.D (task_of self) task.0 task.1 x p c.site-site.result frames intervals each (g.P.Port.memory c.args.port.now) (g.P.Port.memory c.follow_block_verified.new.port) (told c.follow_block_verified.result c.follow_block_verified.new.how)
    c.args.scalars.now (scalars_at c.args.foreseen.now.pred.now c.args.foreseen.now.next) c.in-Some-statements.statements.now begins closes is (λ r nx told. c.follow_block_verified.ensures.followed r nx told owned)

pub returns-in-Some-statements-clause-changes : goal.returns-in-Some-statements-clause-changes
returns-in-Some-statements-clause-changes g c =
    let self = c.args.self.now in
    let task = c.requires.can.task in
    let x = c.args.foreseen.now.inst.now in
    let p = c.requires.can.predicted in
    let t = self.pred.now in
    let loops = self.nest.now.loops in
    let counts : c.in-Some.loops ≡ counters t (block_of t x) = (let e = sym c.in-Some.is ∙ c.counters.ensures ∙ ap (counters_of loops) c.block-block.ensures ∙ counters-here g.row.D self.scalars self.nest.now.loops self.pred.now self.outer (nest-of g.row.D (task_of self) task.0 task.1) x (in-turns g.row.D (task_of self) task.0 task.1 x p) in cc) in
    let frames = λ (e : Expectation). c.site-site.ensures e ∙ ap (λ (r : BlockRef). frame_of e r.part r.level (around_of t loops self.outer (take c.in-Some.loops x.at))) c.block-block.ensures
    ∙ ap (frame_of e (block_of t x).part (block_of t x).level) (ap (λ (n : ℕ). around_of t loops self.outer (take n x.at)) counts) in
    let intervals = interval_at c.args.foreseen.now.pred.now x in
    let each = λ (access : ℕ). ap (λ (u : Table). interval_at u x access) (sym c.requires.can.pred) in
    let begins = c.requires.begins in
    let is = ap (statements_of loops) (sym c.block-block.ensures) ∙ sym c.statements.ensures ∙ ap (option_map (λ ss. ss.now)) c.in-Some-statements.is in
    let owned : VerifiesOwn _ intervals (block_accesses c.in-Some-statements.statements.now) = subst (λ (u : Table). VerifiesOwn (g.P.Port.expects c.args.port.now) (interval_at u x) (block_accesses c.in-Some-statements.statements.now)) (sym c.requires.can.pred) (own-block g.row.D (task_of self) task.0 x task.1 p (g.P.Port.expects c.args.port.now) c.requires.can.own c.in-Some-statements.statements.now is) in
    let from = store_of (g.P.Port.memory c.args.port.now) c.args.scalars.now [] in
    let same = verified-block (occurrence_at c.site-site.result) c.site-site.result.values.now (g.P.Port.expects c.args.port.now) intervals c.in-Some-statements.statements.now from owned in
    changes-block g.row.D (task_of self) task.0 task.1 x p c.site-site.result frames intervals each (g.P.Port.memory c.args.port.now) (g.P.Port.memory c.follow_block_verified.new.port)
    c.args.scalars.now c.in-Some-statements.statements.now begins is (c.follow_block_verified.ensures.words ∙ ap (λ (t : Trace). (cut t from (2 ^ 32) 0).store.memory) same)

pub follow_head_verified-requires-clause-strides : goal.follow_head_verified-requires-clause-strides
follow_head_verified-requires-clause-strides g c =
    let self = c.args.self.now in
    let task = c.requires.can.task in
    let x = c.args.foreseen.now.inst.now in
    let p = c.requires.can.predicted in
    let head-is = ap (λ (r : BlockRef). head_at self.nest.now.loops r.level) (sym c.block-block.ensures) ∙ sym c.head.ensures ∙ ap (option_map (λ head. head.now)) c.in-Some-head.is in
    subst (λ (h : Head). strides h ≡ _) (head-same g.row.D self.scalars self.nest.now.loops self.pred.now self.outer (nest-of g.row.D (task_of self) task.0 task.1) x (in-turns g.row.D (task_of self) task.0 task.1 x p) c.in-Some-head.head.now head-is) (strides-here g.row.D self.scalars self.nest.now.loops self.pred.now self.outer (nest-of g.row.D (task_of self) task.0 task.1) x (in-turns g.row.D (task_of self) task.0 task.1 x p))

pub returns-clause-run : goal.returns-clause-run
returns-clause-run g c =
    let self = c.args.self.now in
    let task = c.requires.can.task in
    let x = c.args.foreseen.now.inst.now in
    let p = c.requires.can.predicted in
    let t = self.pred.now in
    let loops = self.nest.now.loops in
    let counts : c.in-Some.loops ≡ counters t (block_of t x) = (let e = sym c.in-Some.is ∙ c.counters.ensures ∙ ap (counters_of loops) c.block-block.ensures ∙ counters-here g.row.D self.scalars self.nest.now.loops self.pred.now self.outer (nest-of g.row.D (task_of self) task.0 task.1) x (in-turns g.row.D (task_of self) task.0 task.1 x p) in cc) in
    let frames = λ (e : Expectation). c.site-site.ensures e ∙ ap (λ (r : BlockRef). frame_of e r.part r.level (around_of t loops self.outer (take c.in-Some.loops x.at))) c.block-block.ensures
    ∙ ap (frame_of e (block_of t x).part (block_of t x).level) (ap (λ (n : ℕ). around_of t loops self.outer (take n x.at)) counts) in
    let intervals = interval_at c.args.foreseen.now.pred.now x in
    let each = λ (access : ℕ). ap (λ (u : Table). interval_at u x access) (sym c.requires.can.pred) in
    let begins = c.requires.begins in
    let closes = ap (λ (u : Table). scalars_at u c.args.foreseen.now.next) c.requires.can.pred ∙ c.requires.can.next in
    let head-is = ap (λ (r : BlockRef). head_at loops r.level) (sym c.block-block.ensures) ∙ sym c.head.ensures ∙ ap (option_map (λ head. head.now)) c.in-Some-head.is in
    let none = ap (statements_of loops) (sym c.block-block.ensures) ∙ sym c.statements.ensures ∙ ap (option_map (λ ss. ss.now)) c.in_default-statements.is in
    let part = none-head g.row.D self.scalars self.nest.now.loops self.pred.now self.outer (nest-of g.row.D (task_of self) task.0 task.1) x (in-turns g.row.D (task_of self) task.0 task.1 x p) none in
    let owned : VerifiesOwn _ intervals (head_accesses c.in-Some-head.head.now) = subst (λ (u : Table). VerifiesOwn (g.P.Port.expects c.args.port.now) (interval_at u x) (head_accesses c.in-Some-head.head.now)) (sym c.requires.can.pred) (own-head g.row.D (task_of self) task.0 x task.1 p (g.P.Port.expects c.args.port.now) c.requires.can.own c.in-Some-head.head.now head-is part) in
    run-head g.row.D (task_of self) task.0 task.1 x p c.site-site.result frames intervals each (g.P.Port.memory c.args.port.now) (g.P.Port.memory c.follow_head_verified.new.port) (told c.follow_head_verified.result c.follow_head_verified.new.how)
    c.args.scalars.now (scalars_at c.args.foreseen.now.pred.now c.args.foreseen.now.next) c.in-Some-head.head.now c.turning-turning.result begins closes head-is part c.turning-turning.ensures (λ r nx told turning. c.follow_head_verified.ensures.followed r nx told owned turning)

pub returns-in-Some-statements-clause-closes : goal.returns-in-Some-statements-clause-closes
returns-in-Some-statements-clause-closes g c = λ ok.
    let self = c.args.self.now in
    let task = c.requires.can.task in
    let x = c.args.foreseen.now.inst.now in
    let p = c.requires.can.predicted in
    let begins = c.requires.begins in
    let closes = ap (λ (u : Table). scalars_at u c.args.foreseen.now.next) c.requires.can.pred ∙ c.requires.can.next in
    closes-small g.row.D (task_of self) task.0 task.1 x p c.args.scalars.now (scalars_at c.args.foreseen.now.pred.now c.args.foreseen.now.next) begins closes (c.follow_block_verified.ensures.fits ok)

pub returns-clause-closes : goal.returns-clause-closes
returns-clause-closes g c = λ ok.
    let self = c.args.self.now in
    let task = c.requires.can.task in
    let x = c.args.foreseen.now.inst.now in
    let p = c.requires.can.predicted in
    let begins = c.requires.begins in
    let closes = ap (λ (u : Table). scalars_at u c.args.foreseen.now.next) c.requires.can.pred ∙ c.requires.can.next in
    closes-small g.row.D (task_of self) task.0 task.1 x p c.args.scalars.now (scalars_at c.args.foreseen.now.pred.now c.args.foreseen.now.next) begins closes (c.follow_head_verified.ensures.fits ok)

pub returns-clause-changes : goal.returns-clause-changes
returns-clause-changes g c = changes-nothing c.args.self.now.pred.now c.args.foreseen.now.inst.now (g.P.Port.memory c.args.port.now) (g.P.Port.memory c.follow_head_verified.new.port) c.follow_head_verified.ensures.memory

pub follow_block_verified-requires-clause-scalars : goal.follow_block_verified-requires-clause-scalars
follow_block_verified-requires-clause-scalars g c =
    let self = c.args.self.now in
    let task = c.requires.can.task in
    let x = c.args.foreseen.now.inst.now in
    let p = c.requires.can.predicted in
    let few = few-scalars g.row.D (task_of self) task.0 task.1 x p in
    let sizes = ap length c.requires.begins ∙ length-scalars self.pred.now x ∙ count-here g.row.D (task_of self) task.0 task.1 x p in
    omega (arith, few, sizes)

pub follow_head_verified-requires-clause-scalars : goal.follow_head_verified-requires-clause-scalars
follow_head_verified-requires-clause-scalars g c =
    let self = c.args.self.now in
    let task = c.requires.can.task in
    let x = c.args.foreseen.now.inst.now in
    let p = c.requires.can.predicted in
    let few = few-scalars g.row.D (task_of self) task.0 task.1 x p in
    let sizes = ap length c.requires.begins ∙ length-scalars self.pred.now x ∙ count-here g.row.D (task_of self) task.0 task.1 x p in
    omega (arith, few, sizes)
