-- What holds of answers.
use Rattle.std.specs.Prelude.{◌≡◌, ℕ, List, Ok}
use Rattle.std.specs.List.{All}
use Rattle.nest_grammar.specs.declared.file.File.{File}
use Rattle.nest_grammar.specs.Contents.{reading}
use Rattle.nest_grammar.specs.Files.{first_store}
use Rattle.profile.specs.Reach.{HasI64s, IsOfI64s}
use Rattle.nest_top.specs.declared.status.Status.{Status}
use Rattle.nest_top.specs.Answers.{IsAnswer, Causes}

-- arguments and a text have at most one answer
abbrev pub OneAnswer : Type 0
OneAnswer = (words : List (List ℕ)) (text bytes other : List ℕ) (status another : Status) → IsAnswer words text bytes status → IsAnswer words text other another
    → (bytes ≡ other) × (status ≡ another)

-- the numbers of a file are i64s
pub record AreI64s (file : File) : Type 0 where
  pub numbers : All (λ u. All HasI64s u.nest.loops) file.units
  pub store : IsOfI64s (first_store file)

-- the numbers of every file that a text reads as are i64s
abbrev pub FilesAreOfI64s : Type 0
FilesAreOfI64s = (text : List ℕ) (file : File) → reading text ≡ Ok file → AreI64s file

-- arguments and a text have an answer
abbrev pub SomeAnswer : Type 0
SomeAnswer = (words : List (List ℕ)) (text : List ℕ) → (bytes : List ℕ) × (status : Status) × IsAnswer words text bytes status

-- each status of an answer has its cause
abbrev pub EachHasItsCause : Type 0
EachHasItsCause = (words : List (List ℕ)) (text bytes : List ℕ) (status : Status) → IsAnswer words text bytes status → Causes words text status
