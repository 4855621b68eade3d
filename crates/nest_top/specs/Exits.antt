-- The exit of each status.
use Rattle.std.specs.Prelude.{ℕ}
use Rattle.nest_top.specs.declared.status.Status.{Status}
use Rattle.nest_top.specs.declared.status.Status.TheVariants.{Ended, Refused, SourceFault, SinkFault, NoMemory, Trapped, Limited, Usage}

abbrev pub exit_code : Status → ℕ
exit_code Ended = 0
exit_code Refused = 2
exit_code SourceFault = 3
exit_code SinkFault = 4
exit_code NoMemory = 5
exit_code Trapped = 10
exit_code Limited = 11
exit_code Usage = 64
