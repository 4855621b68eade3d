use Rattle.std.proofs.Common.{refl, sym, subst, Result, ℕ, length, pos}
use Rattle.follow.specs.declared.how.Differs.{Differs}
use Rattle.follow.specs.Told.{told}
use Rattle.follow_chunk.specs.Tasks.{task_of}
use Rattle.follow_chunk.specs.declared.task.Followed.{Followed}
use Rattle.follow_chunk.specs.Verifies.{IsShort}
use Rattle.follow_chunk.specs.Followed.{IsRun, IsInstanceFollowed, IsClosedSmall}
use Rattle.follow_chunk.proofs.WholeInstanceLaws.{follows-by, deviates-by, run-few}
use Rattle.follow_chunk.proofs.verified.follow_verified.Goals as goal

pub returns-in-Ok-clause-followed : goal.returns-in-Ok-clause-followed
returns-in-Ok-clause-followed g c =
    let self = c.args.task.now in
    let m = g.P.Port.memory c.args.port.now in
    follows-by g.row.D (task_of self) (pos (length m)) c.requires.task c.args.foreseen.now.inst.now c.requires.can.predicted m (g.P.Port.memory c.follow_own.new.port) c.in-Ok.steps
    (subst (λ (r : Result ℕ Differs). IsRun (task_of self) c.args.foreseen.now.inst.now m (told r c.follow_own.new.how) (g.P.Port.memory c.follow_own.new.port)) c.in-Ok.is c.follow_own.ensures.run)

pub returns-in-Err-clause-followed : goal.returns-in-Err-clause-followed
returns-in-Err-clause-followed g c =
    let self = c.args.task.now in
    let x = c.args.foreseen.now.inst.now in
    let m = g.P.Port.memory c.args.port.now in
    let deviates =
    deviates-by g.row.D (task_of self) (pos (length m)) c.requires.task x c.requires.can.predicted m (g.P.Port.memory c.follow_own.new.port) c.follow_own.new.how
    (subst (λ (r : Result ℕ Differs). IsRun (task_of self) x m (told r c.follow_own.new.how) (g.P.Port.memory c.follow_own.new.port)) c.in-Err.is c.follow_own.ensures.run) in
    subst (λ (f : Followed g.row.D). IsInstanceFollowed (task_of self) x m f (g.P.Port.memory c.follow_own.new.port)) (sym c.differs.ensures) (refl, deviates)

pub returns-in-Err-clause-closes : goal.returns-in-Err-clause-closes
returns-in-Err-clause-closes g c = subst (λ (f : Followed g.row.D). IsClosedSmall c.args.task.now.pred.now c.args.foreseen.now.inst.now f) (sym c.differs.ensures) tt

pub returns-in-Err-clause-short : goal.returns-in-Err-clause-short
returns-in-Err-clause-short g c = subst (λ (f : Followed g.row.D). IsShort f) (sym c.differs.ensures) tt

pub returns-in-Ok-clause-short : goal.returns-in-Ok-clause-short
returns-in-Ok-clause-short g c =
    let self = c.args.task.now in
    let m = g.P.Port.memory c.args.port.now in
    run-few g.row.D (task_of self) (pos (length m)) c.requires.task c.args.foreseen.now.inst.now c.requires.can.predicted m (g.P.Port.memory c.follow_own.new.port) c.in-Ok.steps
    (subst (λ (r : Result ℕ Differs). IsRun (task_of self) c.args.foreseen.now.inst.now m (told r c.follow_own.new.how) (g.P.Port.memory c.follow_own.new.port)) c.in-Ok.is c.follow_own.ensures.run)
