use Rattle.std.proofs.Common.{FitsSigned, w64, rules}
use Rattle.std.proofs.lemmas.Int.{to_z-of_z}
use Rattle.profile.proofs.LogLaws.{log-turned}
use Rattle.profile.proofs.log.Log.turn.Goals as goal

pub returns : goal.returns
returns c =
    let fits : FitsSigned w64 c.args.counter = search rules in
    let kept = rw (to_z-of_z w64 c.args.counter fits) at c.in_ok-push.ensures.items in
    let more = rw (to_z-of_z w64 c.args.counter fits) at c.in_ok-push-2.ensures.items in
    log-turned c.args.self.now.items.items c.push.new.self.items c.args.self.now.counters.items c.truncate.new.self.items c.push-2.new.self.items c.args.place c.args.counter kept c.requires.step c.truncate.ensures.items more
