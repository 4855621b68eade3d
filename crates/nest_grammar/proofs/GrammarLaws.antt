-- The laws.
use Rattle.std.proofs.Common.{◌≡◌, ℕ, List, refl, sym, ◌∙◌, Ok, Err}
use Rattle.nest_grammar.specs.declared.file.File.{File}
use Rattle.nest_grammar.specs.declared.fault.TextFault.{TextFault}
use Rattle.nest_grammar.specs.Contents.{reading}
use Rattle.nest_grammar.specs.Grammar.{Reads}
use Rattle.nest_grammar.specs.Laws.{ReadingIsTheGrammar, OneReading, FaultOrFile}
use Rattle.nest_grammar.proofs.ContentLaws.{reads-reading, reading-reads}

pub says-the-same : ReadingIsTheGrammar
says-the-same text file = (reads-reading text file, reading-reads text file)

pub at-most-one : OneReading
at-most-one text a b h k = let e : Ok a ≡ Ok b = sym (reads-reading text a h) ∙ reads-reading text b k in cc

fault-unread : (text : List ℕ) → (fault : TextFault) × (reading text ≡ Err fault) → (file : File) → Reads text file → ⊥
fault-unread text f file r = let e : Err f.0 ≡ Ok file = sym f.1 ∙ reads-reading text file r in cc

unread-fault : (text : List ℕ) → ((file : File) → Reads text file → ⊥) → (fault : TextFault) × (reading text ≡ Err fault)
unread-fault text h = elim (reading text) as (λ r. reading text ≡ r → (fault : TextFault) × (reading text ≡ Err fault)) [
  | Ok file ↦ λ e. absurd (h file (reading-reads text file e))
  | Err fault ↦ λ e. (fault, e)
] refl

pub fault-or-file : FaultOrFile
fault-or-file text = (fault-unread text, unread-fault text)

pub ruleset laws = (says-the-same, at-most-one)
