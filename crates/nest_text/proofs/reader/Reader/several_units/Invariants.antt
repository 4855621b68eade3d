use Rattle.std.proofs.Common.{◌≡◌, length}
use Rattle.nest_grammar.specs.Readings.{many}
use Rattle.nest_grammar.specs.Loops.{loop_keyword}
use Rattle.nest_grammar.specs.Contents.{next_unit}
use Rattle.nest_text.proofs.reader.Reader.several_units.Given as goal

abbrev pub invariant-units : goal.invariant-units
invariant-units l = record {
  rest : many loop_keyword (next_unit l.names.items) l.units l.self ≡ many loop_keyword (next_unit l.fn.names.items) l.fn.units l.fn.self;
  kept : l.names.items ≡ l.fn.names.items;
}

abbrev pub decreases-units : goal.decreases-units
decreases-units l = length l.self.left
