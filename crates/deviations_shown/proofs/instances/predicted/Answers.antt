use Rattle.std.proofs.Common.{◌≡◌, ◌∙◌, sym, subst, ◌≤◌, ◌+◌, ℤ, pos, ◌+ℤ◌, ◌≤ℤ◌, ◌<ℤ◌, FitsSigned, w64, List, [], ◌∷◌, ◌++◌, length, inl, arith, rules}
use Rattle.std.specs.List.{AllByRecursion}
use Rattle.std.proofs.lemmas.Int.{ints}
use Rattle.plain_lemmas.proofs.IntegerLaws.{int_lt-true}
use Rattle.domain.specs.Instances.{Instance, Predicted, opening_at}
use Rattle.domain.proofs.OriginalLaws.{opening-predicted}
use Rattle.follow_chunk.proofs.LaunchedInstanceLaws.{can-turn}
use Rattle.follow_chunk.specs.Tasks.{task_of}
use Rattle.compare.proofs.PredictedChainLaws.{tasks-are-chunks}
use Rattle.deviations_shown.proofs.ListingLaws.{in-chunk, all-with}
use Rattle.deviations_shown.proofs.instances.predicted.Goals as goal

pub loop-done-init : goal.loop-done-init
loop-done-init g c =
    let self = c.args.task.now in
    let t = self.pred.now in
    let chunk = self.chunk in
    let task = c.requires.task in
    let next = tasks-are-chunks g.row.D (task_of self) task.0 task.1 in
    let from = next.from in
    let some = next.some in
    let soon = task.1.soon in
    let fits : FitsSigned w64 chunk.first = omega (arith, ints, from, soon) in
    let is : c.opening-at.result ≡ opening_at t chunk.first = search rules in
    let below : chunk.first <ℤ (chunk.first +ℤ chunk.turns) = omega (arith, ints, some) in
    record {
      at = inl (subst (λ (x : Instance). Predicted t chunk x) (sym is) (opening-predicted g.row.D t task.1.shape chunk chunk.first (omega (arith, ints)) below));
      all = subst (λ (xs : List Instance). AllByRecursion (Predicted t chunk) xs) (sym c.new-list.ensures.items) tt;
      count = search rules;
    }

pub holds-requires : goal.holds-requires
holds-requires g c =
    let self = c.args.task.now in
    let task = c.requires.task in
    let next = tasks-are-chunks g.row.D (task_of self) task.0 task.1 in
    let from = next.from in
    let turns = next.some in
    let soon = task.1.soon in
    let most = task.1.most in
    let some = task.1.shape.some in
    search rules

pub successor-at-requires : goal.successor-at-requires
successor-at-requires g c =
    let self = c.args.task.now in
    let t = self.pred.now in
    let chunk = self.chunk in
    let task = c.requires.task in
    let below = int_lt-true _ _ (sym c.holds.ensures ∙ c.if-not-holds.false) in
    let p = in-chunk g.row.D t task.1.shape chunk c.loop-done.at c.loop-done.invariant.at below in
    let can = can-turn g.row.D (task_of self) task.0 task.1 c.loop-done.at p in
    (search rules, (search rules, (c.requires.few, (p.is.block, can))))

pub loop-done-preserved : goal.loop-done-preserved
loop-done-preserved g c =
    let self = c.args.task.now in
    let t = self.pred.now in
    let chunk = self.chunk in
    let task = c.requires.task in
    let below = int_lt-true _ _ (sym c.holds.ensures ∙ c.if-not-holds.false) in
    let p = in-chunk g.row.D t task.1.shape chunk c.loop-done.at c.loop-done.invariant.at below in
    let items : c.push.new.self.items ≡ c.loop-done.list.items ++ c.loop-done.at ∷ [] = search rules in
    let count : length c.push.new.self.items ≤ c.loop-done._done + 1 = search rules in
    record {
      at = (c.successor-at.ensures chunk p).is;
      all = subst (λ (xs : List Instance). AllByRecursion (Predicted t chunk) xs) (sym items) (all-with (Predicted t chunk) c.loop-done.list.items c.loop-done.at c.loop-done.invariant.all p);
      count = count;
    }
