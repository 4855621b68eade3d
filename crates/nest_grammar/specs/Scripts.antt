-- Scripts: each production of candidates as a reading.
use Rattle.std.specs.Prelude.{ℕ, ◌+◌, ℤ, pos, negsuc, List, [], ◌∷◌, ◌++◌, length, Option, Some, None, Bool, true, false, not, ◌&&◌, ◌==◌, nat_le, nat_lt, codes, count_by}
use Rattle.std.specs.List.{find}
use Rattle.std.specs.Str.{bytes_eq}
use Rattle.arrayvec.specs.ArrayVec.{ArrayVec}
use Rattle.nest_lang.specs.declared.command.Command.{Command}
use Rattle.nest_lang.specs.declared.command.Command.TheVariants.{Seq, Swap, Skew, Tile, Par, Wave}
use Rattle.nest_tokens.specs.declared.token.Name.{Name}
use Rattle.nest_tokens.specs.declared.token.Mark.TheVariants as mark
use Rattle.nest_tokens.specs.declared.token.Token.{Token}
use Rattle.nest_tokens.specs.declared.token.Token.TheVariants as token
use Rattle.nest_tokens.specs.Tokens.{is_mark}
use Rattle.nest_tokens.specs.Lexing.{name_of}
use Rattle.nest_grammar.specs.declared.script.CommandWord.{CommandWord}
use Rattle.nest_grammar.specs.declared.script.CommandWord.TheVariants as word
use Rattle.nest_grammar.specs.declared.fault.TextKind.TheVariants as kind
use Rattle.nest_grammar.specs.Limits.{most_candidates, most_commands, most_skews, most_rows}
use Rattle.nest_grammar.specs.Sights.{stands}
use Rattle.nest_grammar.specs.Readings.{Reading, ◌>>=◌, gives, wrong, skipped, need, obeys, fewer, number_where, signed_where, many, many_at, always}

-- a script: the commands of a candidate
abbrev pub Script : Type 0
Script = List Command

-- how a command's word is spelled
unfoldable pub word_spelling : CommandWord → List ℕ
word_spelling word.Seq = codes "seq"
word_spelling word.Swap = codes "swap"
word_spelling word.Skew = codes "skew"
word_spelling word.Tile = codes "tile"
word_spelling word.Par = codes "par"
word_spelling word.Wave = codes "wave"

abbrev pub command_words : List CommandWord
command_words = word.Seq ∷ word.Swap ∷ word.Skew ∷ word.Tile ∷ word.Par ∷ word.Wave ∷ []

-- the command's word that a name is
unfoldable pub word_of_name : Name → Option CommandWord
word_of_name n = find (λ w. bytes_eq (name_of (word_spelling w)).bytes n.bytes) command_words

-- the command's word that a token is
unfoldable pub command_word : Token → Option CommandWord
command_word (token.Name n) = word_of_name n
command_word _ = None

abbrev pub is_seq : Command → Bool
is_seq (Seq s) = true
is_seq _ = false

abbrev pub is_skew : Command → Bool
is_skew (Skew a b m) = true
is_skew _ = false

-- whether another command of this word may stand behind these: `seq` stands at most once, and `skew` at
-- most six times
abbrev pub may_follow : CommandWord → Script → Bool
may_follow word.Seq cs = nat_lt (count_by is_seq cs) 1
may_follow word.Skew cs = nat_lt (count_by is_skew cs) most_skews
may_follow _ cs = true

-- from 1 to the depth
abbrev pub is_row : ℕ → ℕ → Bool
is_row depth n = nat_le 1 n && nat_le n depth

-- a number of a script that keeps a rule
abbrev pub ruled : (ℕ → Bool) → Reading ℕ
ruled rule = number_where rule kind.Script

-- the number of a row
abbrev pub row : ℕ → Reading ℕ
row depth = ruled (is_row depth)

-- the number of another row
abbrev pub row_but : ℕ → ℕ → Reading ℕ
row_but depth a = ruled (λ n. is_row depth n && not (n == a))

-- from -8 to 8
abbrev pub is_factor : ℤ → Bool
is_factor (pos n) = nat_le n 8
is_factor (negsuc n) = nat_lt n 8

abbrev pub is_size : ℕ → Bool
is_size n = nat_le 1 n && nat_le n 65536

-- a number: another row begins
unfoldable pub row_begins : Token → Option (Unit {0})
row_begins (token.Number n) = Some tt
row_begins _ = None

-- a row behind others
abbrev pub next_row : ℕ → List ℕ → Reading (List ℕ)
next_row depth rows = obeys (nat_lt (length rows) most_rows) kind.Script >>= λ _. row depth >>= λ n. gives (rows ++ n ∷ [])

-- number { number }
unfoldable pub rows : ℕ → Reading (List ℕ)
rows depth = row depth >>= λ n. many row_begins (always (next_row depth)) (n ∷ [])

abbrev pub marked : List ℕ → ArrayVec ℕ
marked ns = record { items = ns }

-- what stands behind a command's word
unfoldable pub operands : ℕ → CommandWord → Reading Command
operands depth word.Seq = ruled (λ n. nat_le n depth) >>= λ n. gives (Seq n)
operands depth word.Swap = row depth >>= λ a. row_but depth a >>= λ b. gives (Swap a b)
operands depth word.Skew = row depth >>= λ a. row_but depth a >>= λ b. signed_where is_factor kind.Script >>= λ m. gives (Skew a b m)
operands depth word.Tile = row depth >>= λ a. ruled is_size >>= λ n. gives (Tile a (pos n))
operands depth word.Par = rows depth >>= λ ns. gives (Par (marked ns))
operands depth word.Wave = rows depth >>= λ ns. gives (Wave (marked ns))

abbrev pub command_at : ℕ → Script → Option CommandWord → Reading Command
command_at depth cs (Some w) = fewer (length cs) most_commands >>= λ _. obeys (may_follow w cs) kind.Script >>= λ _. skipped >>= λ _. operands depth w
command_at depth cs None = wrong

-- a command behind others of its script
unfoldable pub command : ℕ → Script → Reading Script
command depth cs = (λ s. command_at depth cs (command_word (stands s)) s) >>= λ c. gives (cs ++ c ∷ [])

-- ";" command
abbrev pub next_command : ℕ → Script → Reading Script
next_command depth cs = skipped >>= λ _. command depth cs

abbrev pub script_at : ℕ → Bool → Reading Script
script_at depth true = skipped >>= λ _. gives []
script_at depth false = command depth [] >>= many_at mark.Semicolon (next_command depth) >>= λ cs. need mark.CloseBrace >>= λ _. gives cs

-- "{" [ command { ";" command } ] "}"
unfoldable pub script : ℕ → Reading Script
script depth = need mark.OpenBrace >>= λ _ s. script_at depth (is_mark mark.CloseBrace (stands s)) s

-- "candidate" script
abbrev pub candidate : ℕ → List Script → Reading (List Script)
candidate depth scripts = fewer (length scripts) most_candidates >>= λ _. skipped >>= λ _. script depth >>= λ cs. gives (scripts ++ cs ∷ [])

-- the candidates of a nest of this depth
unfoldable pub candidates : ℕ → Reading (List Script)
candidates depth = many_at mark.Candidate (candidate depth) []
