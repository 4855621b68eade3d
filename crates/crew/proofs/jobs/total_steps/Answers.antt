use Rattle.std.proofs.Common.{ap, arith}
use Rattle.crew.proofs.TotalLaws.{total-more}
use Rattle.crew.proofs.jobs.total_steps.Goals as goal

pub loop-job-preserved : goal.loop-job-preserved
loop-job-preserved g c =
    let inv = c.loop-job.invariant in
    let x = c.job-item.result in
    let more = total-more g.J.Job.steps_of c.args.jobs.now c.loop-job.job-index x c.loop-job-test.true in
    let same = ap g.J.Job.steps_of c.job-item.is in
    let value = c.steps-steps.ensures.value in
    let few = c.steps-steps.ensures.few in
    let sum = inv.sum in
    let was = inv.few in
    record { sum = omega (arith, more, same, value, sum); few = omega (arith, was, few) }
