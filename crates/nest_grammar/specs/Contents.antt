-- Contents: scalars, the memory and its items, nests and whole files, each production as a reading. The
-- reading of a text is its file, or its first fault.
use Rattle.std.specs.Prelude.{ℕ, zero, suc, ◌+◌, ◌*◌, ℤ, ◌+ℤ◌, ◌*ℤ◌, pos, List, [], ◌∷◌, ◌++◌, length, Option, Some, None, Result, Ok, Err, Bool, true, false, not, ◌&&◌, ◌==◌, nat_le, nat_lt, if◌then◌else◌}
use Rattle.nest_lang.specs.Values.{is_i64}
use Rattle.nest_tokens.specs.declared.token.Mark.TheVariants as mark
use Rattle.nest_tokens.specs.declared.token.Token.{Token}
use Rattle.nest_tokens.specs.declared.token.Token.TheVariants as token
use Rattle.nest_grammar.specs.declared.version.Version.{Version}
use Rattle.nest_grammar.specs.declared.version.Version.TheVariants.{One, Two}
use Rattle.nest_grammar.specs.declared.file.Scalar.{Scalar}
use Rattle.nest_grammar.specs.declared.file.Item.{Item}
use Rattle.nest_grammar.specs.declared.file.Item.TheVariants.{Data, Ramp}
use Rattle.nest_grammar.specs.declared.file.NestUnit.{NestUnit}
use Rattle.nest_grammar.specs.declared.file.File.{File}
use Rattle.nest_grammar.specs.declared.opening.ItemKeyword.{ItemKeyword}
use Rattle.nest_grammar.specs.declared.opening.ItemKeyword.TheVariants as word
use Rattle.nest_grammar.specs.declared.opening.LoopKeyword.{LoopKeyword}
use Rattle.nest_grammar.specs.declared.fault.TextFault.{TextFault}
use Rattle.nest_grammar.specs.declared.fault.TextKind.TheVariants as kind
use Rattle.nest_grammar.specs.Limits.{most_bytes, most_words, most_scalars, most_nests, most_depth}
use Rattle.nest_grammar.specs.Sights.{Sight, stands, skip, of_version, start}
use Rattle.nest_grammar.specs.Readings.{Reading, ◌>>=◌, gives, refused, wrong, skipped, need, obeys, fewer, number, number_where, signed, signed_where, many, many_at, end}
use Rattle.nest_grammar.specs.Names.{Names, fresh, names_of}
use Rattle.nest_grammar.specs.Loops.{Loops, loops, loop_keyword}
use Rattle.nest_grammar.specs.Scripts.{candidates}

abbrev pub set_version : Version → Reading Version
set_version v s = Ok (v, of_version v (skip s))

abbrev pub version_at : Token → Reading Version
version_at (token.Number n) = if n == 1 then set_version One else (if n == 2 then set_version Two else refused kind.Version)
version_at _ = wrong

-- "nest" and the number of the version
unfoldable pub version : Reading Version
version = need mark.Nest >>= λ _ s. version_at (stands s) s

-- "scalar" name "=" signed, behind other scalars
abbrev pub scalar : List Scalar → Reading (List Scalar)
scalar cs = fewer (length cs) most_scalars >>= λ _. skipped >>= λ _. fresh (names_of cs) >>= λ n. need mark.Assign >>= λ _. signed >>= λ v. gives (cs ++ record { name = n; value = v } ∷ [])

-- { scalar }
unfoldable pub scalars : Reading (List Scalar)
scalars = many_at mark.Scalar scalar []

-- "memory" number
unfoldable pub memory : Reading ℕ
memory = need mark.Memory >>= λ _. number_where (λ n. nat_le n most_words) kind.Range

-- the word that an item begins with
unfoldable pub item_keyword : Token → Option ItemKeyword
item_keyword (token.Plain mark.Data) = Some word.Data
item_keyword (token.Plain mark.Ramp) = Some word.Ramp
item_keyword _ = None

abbrev pub value_begins : Token → Bool
value_begins (token.Number n) = true
value_begins (token.Plain mark.Minus) = true
value_begins _ = false

-- a value for the word at an address, which is judged at the value's first token
unfoldable pub data_value : ℕ → ℕ → Reading ℤ
data_value words address s = if value_begins (stands s) then (obeys (nat_lt address words) kind.Range >>= λ _. signed) s else wrong s

-- "," signed, behind other values
abbrev pub next_value : ℕ → ℕ → List ℤ → Reading (List ℤ)
next_value words first vs = skipped >>= λ _. data_value words (first + length vs) >>= λ v. gives (vs ++ v ∷ [])

-- signed { "," signed }, for the words from an address on
unfoldable pub data_values : ℕ → ℕ → Reading (List ℤ)
data_values words first = data_value words first >>= λ v. many_at mark.Comma (next_value words first) (v ∷ [])

-- whether the ramp stays within the memory and its values within i64
abbrev pub ramp_fits : ℕ → ℕ → ℕ → ℕ → ℤ → ℤ → Bool
ramp_fits words first zero stride start growth = true
ramp_fits words first (suc k) stride start growth = nat_lt (first + stride * k) words && is_i64 (start +ℤ growth *ℤ pos k)

-- what stands behind an item's word
unfoldable pub item_of : ℕ → ItemKeyword → Reading Item
item_of words word.Data = number >>= λ first. need mark.Colon >>= λ _. data_values words first >>= λ vs. gives (Data first vs)
item_of words word.Ramp = number >>= λ first. number >>= λ count. number_where (λ n. not (n == 0)) kind.Range >>= λ stride. signed >>= λ start. signed_where (ramp_fits words first count stride start) kind.Range >>= λ growth. gives (Ramp first count stride start growth)

-- an item behind others
abbrev pub item : ℕ → ItemKeyword → List Item → Reading (List Item)
item words w is = skipped >>= λ _. item_of words w >>= λ i. gives (is ++ i ∷ [])

-- { item }
unfoldable pub items : ℕ → Reading (List Item)
items words = many item_keyword (item words) []

-- the outermost loop, and what stands in it
abbrev pub outermost : Names → Reading Loops
outermost names s = loops (most_depth s.version) 0 names s

-- loop { candidate }
unfoldable pub unit : Names → Reading NestUnit
unit names = outermost names >>= λ ls. candidates (length ls.0) >>= λ scripts. gives (record { nest = record { loops = ls.0 }; names = ls.1; scripts = scripts })

-- a nest behind others
abbrev pub next_unit : Names → LoopKeyword → List NestUnit → Reading (List NestUnit)
next_unit names w us = fewer (length us) most_nests >>= λ _. unit names >>= λ u. gives (us ++ u ∷ [])

-- the nests behind the first: none in version 1
abbrev pub other_units : Version → Names → List NestUnit → Reading (List NestUnit)
other_units One names us = gives us
other_units Two names us = many loop_keyword (next_unit names) us

-- unit { unit }
unfoldable pub units : Version → Names → Reading (List NestUnit)
units v names = unit names >>= λ u. other_units v names (u ∷ [])

-- a whole file
unfoldable pub contents : Reading File
contents = version >>= λ v. scalars >>= λ cs. memory >>= λ words. items words >>= λ is. units v (names_of cs) >>= λ us. end >>= λ _. gives (record { version = v; scalars = cs; words = words; items = is; units = us })

abbrev pub file_of : Result (File × Sight) TextFault → Result File TextFault
file_of (Ok x) = Ok x.0
file_of (Err f) = Err f

-- the fault of a text that is too long
abbrev pub too_long : TextFault
too_long = record { at = most_bytes; what = kind.Long }

-- What a text reads as, or its fault.
unfoldable pub reading : List ℕ → Result File TextFault
reading text = if nat_le (length text) most_bytes then file_of (contents (start text)) else Err too_long
