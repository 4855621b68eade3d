use Rattle.std.proofs.Common.{◌≡◌, [], drop}
use Rattle.nest_lang.specs.Lookups.{plain}
use Rattle.nest_lang.specs.Stores.{store_of}
use Rattle.nest_lang.specs.Statements.{announced, scalars_from}
use Rattle.block_exec.specs.Watches.{Chain}
use Rattle.block_exec.specs.Sites.{frame_at}
use Rattle.block_exec.proofs.context.Run.announce.Given as goal

abbrev pub invariant-loop-number : goal.invariant-loop-number
invariant-loop-number g l = record {
  rest : l.self ≡ record l.fn.self { watch = record l.fn.self.watch { now = l.self.watch.now } };
  shown : (w : _) → Chain g.W.Watch.may l.self.watch.now (scalars_from (frame_at l.site plain) l.number (drop l.number l.fn.self.scalars.now)) w → Chain g.W.Watch.may l.fn.self.watch.now (announced (frame_at l.site plain) (store_of [] l.fn.self.scalars.now [])) w;
}
