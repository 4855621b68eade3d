use Rattle.std.proofs.Common.{true, false}
use Rattle.domain.proofs.TouchedLaws.{HasWords}
use Rattle.domain.proofs.touched.footprint.Given as goal

abbrev pub invariant-loop-access : goal.invariant-loop-access
invariant-loop-access g l = record {
  reads : HasWords l.access-items l.access-index l.inst.at l.words false l.touched.reads.items;
  writes : HasWords l.access-items l.access-index l.inst.at l.words true l.touched.writes.items;
}
