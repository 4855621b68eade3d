use Rattle.std.proofs.Common.{◌≡◌, ◌++◌, take}
use Rattle.journeys.specs.Tellings.{illegal_lines}
use Rattle.controller.proofs.judging.tell_refused.Given as goal

abbrev pub invariant-loop-place : goal.invariant-loop-place
invariant-loop-place l = l.lines.items ≡ l.initial.lines.items ++ illegal_lines l.nest.loops 1 (take l.place l.refusals)
