use Rattle.std.proofs.Common.{refl, subst, Result, ℕ, length, pos}
use Rattle.follow.specs.declared.how.Differs.{Differs}
use Rattle.follow.specs.Told.{told}
use Rattle.follow_chunk.specs.Tasks.{task_of}
use Rattle.follow_chunk.specs.Followed.{IsRun}
use Rattle.follow_chunk.proofs.WholeInstanceLaws.{follows-by, deviates-by}
use Rattle.follow_chunk.proofs.instance.follow_instance.Goals as goal

pub returns-in-Ok-clause-followed : goal.returns-in-Ok-clause-followed
returns-in-Ok-clause-followed g c =
    let self = c.args.task.now in
    let m = g.P.Port.memory c.args.port.now in
    follows-by g.row.D (task_of self) (pos (length m)) c.requires.task c.args.inst.now c.requires.predicted m (g.P.Port.memory c.follow.new.port) c.in-Ok.steps
    (subst (λ (r : Result ℕ Differs). IsRun (task_of self) c.args.inst.now m (told r c.follow.new.how) (g.P.Port.memory c.follow.new.port)) c.in-Ok.is c.follow.ensures.run)

pub returns-in-Err-clause-followed : goal.returns-in-Err-clause-followed
returns-in-Err-clause-followed g c =
    let self = c.args.task.now in
    let m = g.P.Port.memory c.args.port.now in (
      refl,
      deviates-by g.row.D (task_of self) (pos (length m)) c.requires.task c.args.inst.now c.requires.predicted m (g.P.Port.memory c.follow.new.port) c.follow.new.how
          (subst (λ (r : Result ℕ Differs). IsRun (task_of self) c.args.inst.now m (told r c.follow.new.how) (g.P.Port.memory c.follow.new.port)) c.in-Err.is c.follow.ensures.run),
    )
