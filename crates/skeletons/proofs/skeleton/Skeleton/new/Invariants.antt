use Rattle.std.proofs.Common.{◌≡◌, length}
use Rattle.std.specs.List.{AllByRecursion}
use Rattle.level_walk.specs.Walks.{IsBlock}
use Rattle.skeletons.specs.Frames.{AllFind}
use Rattle.skeletons.proofs.skeleton.Skeleton.new.Given as goal

abbrev pub invariant-loop-rank : goal.invariant-loop-rank
invariant-loop-rank g l = record {
  count : length l.blocks.items ≡ l.rank;
  are : AllByRecursion (IsBlock g.row.D) l.blocks.items;
  find : AllFind g.row.D (record { table = l.pred; schedule = l.schedule; chunk = l.chunk }) 0 l.blocks.items;
}
