use Rattle.std.proofs.Common.{◌≡◌, ◌<◌, ℕ, ℤ, None}
use Rattle.domain.specs.declared.table.LoopKind.TheVariants.{For}
use Rattle.domain.specs.Tables.{level_at}
use Rattle.follow_bench.proofs.tasks.Foretold.has_lowers.Given as goal

abbrev pub invariant-loop-around : goal.invariant-loop-around
invariant-loop-around g l = (k : ℕ) (stride : ℤ) → k < l.around → (level_at l.self.pred.now k).kind ≡ For stride → (level_at l.self.pred.now k).lower ≡ None → (level_at l.self.pred.now k).trip ≡ None
