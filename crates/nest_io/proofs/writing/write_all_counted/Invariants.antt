use Rattle.std.proofs.Common.{◌≡◌, ◌+◌, ◌≤◌, ℕ, List, ◌++◌, length}
use Rattle.nest_io.specs.Bytes.{Appends}
use Rattle.nest_io.proofs.writing.write_all_counted.Given as goal

-- what was put and what is left are all the bytes, and each step put at least one of them
abbrev pub invariant-loop-rest : goal.invariant-loop-rest
invariant-loop-rest g l =
    let held = g.K.Sink.held in
    let faults = g.K.Sink.faults in
    record {
      put : (put : List ℕ) × (l.fn.bytes ≡ put ++ l.rest) × Appends (held l.fn.sink) (held l.sink) put × (l.steps ≤ l.fn.steps + length put);
      never_falls : faults l.fn.sink ≤ faults l.sink;
      onward : l.fn.steps ≤ l.steps;
    }

-- each turn puts at least one byte
abbrev pub decreases-loop-rest : goal.decreases-loop-rest
decreases-loop-rest g l = length l.rest
