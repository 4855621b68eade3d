use Rattle.std.proofs.Common.{◌+◌, ◌-◌, ◌≤◌, vec_len}
use Rattle.nest_io.specs.Bytes.{Takes}
use Rattle.nest_io.proofs.reading.read_all_counted.Given as goal

-- the bytes so far were taken of the source, and each step took at least one of them
abbrev pub invariant-loop-piece : goal.invariant-loop-piece
invariant-loop-piece g l =
    let left = g.S.Source.left in
    let faults = g.S.Source.faults in
    record {
      taken : Takes (left l.fn.source) (left l.source) l.bytes.items;
      limit : vec_len l.bytes ≤ l.most + 1;
      never_falls : faults l.fn.source ≤ faults l.source;
      reads : l.steps ≤ l.fn.steps + vec_len l.bytes;
      onward : l.fn.steps ≤ l.steps;
    }

-- each turn takes at least one byte
abbrev pub decreases-loop-piece : goal.decreases-loop-piece
decreases-loop-piece g l = l.most + 1 - vec_len l.bytes
