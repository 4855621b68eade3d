use Rattle.std.proofs.Common.{◌≡◌, length}
use Rattle.nest_grammar.specs.Readings.{many, always}
use Rattle.nest_grammar.specs.Scripts.{row_begins, next_row, rows}
use Rattle.nest_text.proofs.reader.Reader.rows.Given as goal

abbrev pub invariant-rows : goal.invariant-rows
invariant-rows l = many row_begins (always (next_row l.depth)) l.rows.items l.self ≡ rows l.fn.depth l.fn.self

abbrev pub decreases-rows : goal.decreases-rows
decreases-rows l = length l.self.left
