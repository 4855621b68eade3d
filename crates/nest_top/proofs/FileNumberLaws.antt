-- The numbers of a file that a text reads as are i64s.
use Rattle.nest_grammar.specs.declared.file.File.{File}
use Rattle.nest_text.specs.Files.{IsOfText}
use Rattle.nest_top.specs.Laws.{AreI64s}
use Rattle.controller.proofs.FileNumberLaws.{store-of-i64s, units-of-i64s}

-- a file that a text reads as has i64s alone
pub are-i64s : (file : File) → IsOfText file → AreI64s file
are-i64s file of = record { numbers = units-of-i64s file of; store = store-of-i64s file of }
