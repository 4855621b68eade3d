-- Faults: the line that says why a text was refused.
use Rattle.std.specs.Prelude.{List, ℕ, ◌++◌, codes, decimal}
use Rattle.nest_grammar.specs.declared.fault.TextFault.{TextFault}
use Rattle.nest_grammar.specs.declared.fault.TextKind.{TextKind}
use Rattle.nest_grammar.specs.declared.fault.TextKind.TheVariants as kind
use Rattle.report.specs.Outcomes.{line}

-- the word of a kind
unfoldable pub kind_word : TextKind → List ℕ
kind_word kind.Long = codes "Long"
kind_word kind.Byte = codes "Byte"
kind_word kind.Number = codes "Number"
kind_word kind.Name = codes "Name"
kind_word kind.Expected = codes "Expected"
kind_word kind.Version = codes "Version"
kind_word kind.Known = codes "Known"
kind_word kind.Unknown = codes "Unknown"
kind_word kind.Fixed = codes "Fixed"
kind_word kind.Many = codes "Many"
kind_word kind.Deep = codes "Deep"
kind_word kind.Range = codes "Range"
kind_word kind.Empty = codes "Empty"
kind_word kind.Script = codes "Script"

-- where the first wrong token of a text begins, and what is wrong with it
abbrev pub refusal_line : TextFault → List ℕ
refusal_line fault = line (codes "refused " ++ decimal fault.at ++ codes " " ++ kind_word fault.what)
