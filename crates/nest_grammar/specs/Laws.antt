-- Laws: the reading of a text and the grammar say the same.
use Rattle.std.specs.Prelude.{◌≡◌, ◌↔◌, ℕ, List, Ok, Err}
use Rattle.nest_grammar.specs.declared.file.File.{File}
use Rattle.nest_grammar.specs.declared.fault.TextFault.{TextFault}
use Rattle.nest_grammar.specs.Contents.{reading}
use Rattle.nest_grammar.specs.Grammar.{Reads}

-- A text reads as a file exactly where the grammar says that it is this file.
abbrev pub ReadingIsTheGrammar : Type 0
ReadingIsTheGrammar = (text : List ℕ) (file : File) → Reads text file ↔ (reading text ≡ Ok file)

-- A text is at most one file.
abbrev pub OneReading : Type 0
OneReading = (text : List ℕ) (a b : File) → Reads text a → Reads text b → a ≡ b

-- A text has a fault exactly where it is no file.
abbrev pub FaultOrFile : Type 0
FaultOrFile = (text : List ℕ) → ((fault : TextFault) × (reading text ≡ Err fault)) ↔ ((file : File) → Reads text file → ⊥)
