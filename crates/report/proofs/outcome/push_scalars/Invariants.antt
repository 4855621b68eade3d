use Rattle.std.proofs.Common.{◌≡◌, ◌++◌, drop, flat_map, string_bytes}
use Rattle.std.specs.List.{zip}
use Rattle.nest_text.specs.Files.{scalar_names}
use Rattle.report.specs.Outcomes.{scalar_line}
use Rattle.report.proofs.outcome.push_scalars.Given as goal

-- the lines of the names and values that are left complete the text
abbrev pub invariant-scalars : goal.invariant-scalars
invariant-scalars l =
    string_bytes l.text ++ flat_map scalar_line (zip (drop l.number (scalar_names l.file)) (drop l.number l.values))
    ≡ string_bytes l.fn.text ++ flat_map scalar_line (zip (scalar_names l.fn.file) l.fn.values)
