-- Limits: how much of a thing a file may have.
use Rattle.std.specs.Prelude.{ℕ}
use Rattle.nest_grammar.specs.declared.version.Version.{Version}
use Rattle.nest_grammar.specs.declared.version.Version.TheVariants.{One, Two}

-- bytes of a text
abbrev pub most_bytes : ℕ
most_bytes = 1048576

-- words of the memory
abbrev pub most_words : ℕ
most_words = 1048576

abbrev pub most_scalars : ℕ
most_scalars = 16

-- locals of a block
abbrev pub most_lets : ℕ
most_lets = 16

-- tokens of an expression
abbrev pub most_tokens : ℕ
most_tokens = 256

-- brackets, parentheses and prefix signs that are open at once in an expression
abbrev pub most_open : ℕ
most_open = 32

-- conditions within conditions
abbrev pub most_ifs : ℕ
most_ifs = 8

-- nests of a file of version 2
abbrev pub most_nests : ℕ
most_nests = 8

-- candidates of a nest
abbrev pub most_candidates : ℕ
most_candidates = 16

-- commands of a candidate, and how many of them may be skews
abbrev pub most_commands : ℕ
most_commands = 32

abbrev pub most_skews : ℕ
most_skews = 6

-- rows that one `par` or `wave` marks
abbrev pub most_rows : ℕ
most_rows = 6

-- loops within one another
abbrev pub most_depth : Version → ℕ
most_depth One = 4
most_depth Two = 6

-- accesses of a block
abbrev pub most_accesses : Version → ℕ
most_accesses One = 32
most_accesses Two = 64
