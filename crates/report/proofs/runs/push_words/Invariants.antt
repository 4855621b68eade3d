use Rattle.std.proofs.Common.{◌≡◌, List, ◌++◌, drop, flat_map, string_bytes}
use Rattle.report.specs.declared.runs.WordRun.{WordRun}
use Rattle.report.specs.Outcomes.{words_line}
use Rattle.report.proofs.RunLaws.{LongestBelow}
use Rattle.report.proofs.runs.push_words.Given as goal

-- the lines of the longest runs below the next piece are written
abbrev pub invariant-loop-words : goal.invariant-loop-words
invariant-loop-words l =
    (l.words-iterator.rest.now ≡ drop l.first l.memory) ×
    ((runs : List WordRun) × LongestBelow l.memory l.first runs ×
    (string_bytes l.text ≡ string_bytes l.fn.text ++ flat_map words_line runs))
