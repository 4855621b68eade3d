-- Files: what a file that was read gives, in the words of its calls.
use Rattle.std.specs.Prelude.{◌≡◌, ℕ, List, map, slice_get, Option, Result, Ok, Err}
use Rattle.std.specs.Option.{option_and_then}
use Rattle.nest_lang.specs.declared.command.Command.{Command}
use Rattle.nest_grammar.specs.declared.file.File.{File}
use Rattle.nest_grammar.specs.Contents.{reading}
use Rattle.nest_grammar.specs.Grammar.{Reads}
use Rattle.nest_tokens.specs.Spellings.{name_text}
use Rattle.nest_text.specs.declared.refusal.ReadRefusal.{ReadRefusal}
use Rattle.nest_text.specs.declared.refusal.ReadRefusal.TheVariants.{Text, NoMemory}

-- A file comes where the grammar says that the text is this file, and a fault where it says that the text
-- is no file.
abbrev pub ByGrammar : List ℕ → Result File ReadRefusal → Type 0
ByGrammar text (Ok file) = Reads text file
ByGrammar text (Err (Text fault)) = (file : File) → Reads text file → ⊥
ByGrammar text (Err NoMemory) = Unit {0}

-- some text reads as this file
abbrev pub IsOfText : File → Type 0
IsOfText file = (text : List ℕ) × (reading text ≡ Ok file)

-- the names of a file's scalars
abbrev pub scalar_names : File → List (List ℕ)
scalar_names file = map (λ scalar. name_text scalar.name) file.scalars

-- the scripts of each nest
abbrev pub scripts_of : File → List (List (List Command))
scripts_of file = map (λ unit. unit.scripts) file.units

-- a candidate's script, where there are this nest and this candidate
abbrev pub script_at : File → ℕ → ℕ → Option (List Command)
script_at file nest number = option_and_then (λ scripts. slice_get scripts number) (slice_get (scripts_of file) nest)
