-- Spellings of names.
use Rattle.std.specs.Prelude.{ℕ, List, take, Bool, not, ◌==◌}
use Rattle.std.specs.List.{prefix_len}
use Rattle.nest_tokens.specs.declared.token.Name.{Name}

-- a byte of a name that is none of the zeros behind it
abbrev pub is_written : ℕ → Bool
is_written b = not (b == 0)

-- the bytes of a name: those before its zeros
unfoldable pub name_text : Name → List ℕ
name_text n = take (prefix_len is_written n.bytes) n.bytes
