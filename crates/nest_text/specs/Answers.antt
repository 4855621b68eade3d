-- Answers of the reader.
use Rattle.std.specs.Prelude.{◌≡◌, ℕ, Result, Ok, Err, Option, Some, None, Bool}
use Rattle.nest_tokens.specs.declared.token.Token.{Token}
use Rattle.nest_tokens.specs.declared.token.Token.TheVariants as token
use Rattle.nest_grammar.specs.declared.fault.TextFault.{TextFault}
use Rattle.nest_grammar.specs.declared.fault.TextKind.{TextKind}
use Rattle.nest_grammar.specs.Sights.{Sight, here, stands}
use Rattle.nest_grammar.specs.Readings.{Reading, ◌>>=◌, unexpected, obeys, skipped}
use Rattle.nest_text.specs.declared.refusal.ReadRefusal.{ReadRefusal}
use Rattle.nest_text.specs.declared.refusal.ReadRefusal.TheVariants.{Text, NoMemory}

-- What a function returned and left is what a reading gives, unless memory ran out.
abbrev pub Gives : {A : Type 0} → Result A ReadRefusal → Sight → Result (A × Sight) TextFault → Type 0
Gives (Ok a) new read = read ≡ Ok (a, new)
Gives (Err NoMemory) new read = Unit {0}
Gives (Err (Text f)) new read = read ≡ Err f

-- the same, where the reading gives what is made of the thing
abbrev pub GivesAs : {A B : Type 0} → (A → B) → Result A ReadRefusal → Sight → Result (B × Sight) TextFault → Type 0
GivesAs f (Ok a) new read = read ≡ Ok (f a, new)
GivesAs f (Err NoMemory) new read = Unit {0}
GivesAs f (Err (Text e)) new read = read ≡ Err e

-- a token that keeps a rule
abbrev pub passed : Bool → TextKind → Reading (Unit {0})
passed rule what = obeys rule what >>= λ _. skipped

-- the number that a token is
unfoldable pub number_of : Token → Option ℕ
number_of (token.Number n) = Some n
number_of _ = None

-- the number that stands here, or that none does
abbrev pub NumberHere : Result ℕ ReadRefusal → Sight → Type 0
NumberHere (Ok n) s = number_of (stands s) ≡ Some n
NumberHere (Err NoMemory) s = ⊥
NumberHere (Err (Text f)) s = (number_of (stands s) ≡ None) × (f ≡ record { at = (here s).at; what = unexpected (stands s) })

-- the same for a whole text: its file, or its first fault
abbrev pub Answers : {A : Type 0} → Result A ReadRefusal → Result A TextFault → Type 0
Answers (Ok a) read = read ≡ Ok a
Answers (Err NoMemory) read = Unit {0}
Answers (Err (Text f)) read = read ≡ Err f
