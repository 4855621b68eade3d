use Rattle.std.proofs.Common.{◌≡◌, sym, subst, ℤ, pos, unsigned_abs, ◌≤ℤ◌, ◌^◌, w64, to_z, of_z, rules}
use Rattle.follow.specs.ChunkRuns.{HasTurnsIn}
use Rattle.domain.specs.Launches.{IsLaunched}
use Rattle.follow_bench.proofs.tasks.Foretold.task.Goals as goal

pub returns : goal.returns
returns g c =
    let self = c.args.self.now in
    let first : to_z w64 (of_z w64 self.outer.next) ≡ self.outer.next = search rules in
    let count : to_z w64 (of_z w64 c.from.result) ≡ pos c.args.turns = search rules in
    let lowers = c.has_lowers.ensures (search rules) in
    let turns = c.has_turns.ensures (search rules) in
    let soon : self.outer.next ≤ℤ pos (2 ^ 32) = search rules in
    let some : pos 1 ≤ℤ pos c.args.turns = search rules in
    let most : pos c.args.turns ≤ℤ pos 1024 = search rules in
    let launched : IsLaunched self.pred.now (pos c.args.words) (record { first = to_z w64 (of_z w64 self.outer.next); turns = to_z w64 (of_z w64 c.from.result) }) c.in-Ok._launched.instances = search rules in
    record {
      keeps = c.requires.keeps;
      shape = c.block_count-blocks.ensures.table;
      table = c.requires.table;
      lowers = lowers;
      position = c.requires.position;
      first = first;
      soon = subst (λ (z : ℤ). z ≤ℤ pos (2 ^ 32)) (sym first) soon;
      some = subst (λ (z : ℤ). pos 1 ≤ℤ z) (sym count) some;
      most = subst (λ (z : ℤ). z ≤ℤ pos 1024) (sym count) most;
      turns = subst (λ (z : ℤ). HasTurnsIn self.nest.now.loops self.outer (unsigned_abs z)) (sym count) turns;
      launched = (c.in-Ok._launched.instances, launched);
    }
