use Rattle.std.proofs.Common.{◌≡◌, take, flat_map, string_bytes}
use Rattle.nest_text.specs.Files.{scalar_names}
use Rattle.report.specs.Lines.{line_text}
use Rattle.report.proofs.written.lines_text.Given as goal

abbrev pub invariant-loop-line : goal.invariant-loop-line
invariant-loop-line l = string_bytes l.text ≡ flat_map (line_text (scalar_names l.file)) (take l.line-index l.lines)
