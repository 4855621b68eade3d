-- Texts: what is taken of a source.
use Rattle.std.specs.Prelude.{◌≡◌, ℕ, ◌+◌, List, take, drop, Option, Some, IfSome}
use Rattle.nest_grammar.specs.Limits.{most_bytes}

-- its first bytes, at most one more than a text may have
abbrev pub text_taken : List ℕ → List ℕ
text_taken left = take (most_bytes + 1) left

-- the text is what was taken of a source, where it tells its bytes
abbrev pub IsTextOf : Option (List ℕ) → List ℕ → Type 0
IsTextOf left text = IfSome left (λ bytes. text ≡ text_taken bytes)

-- what was taken of a source is gone from it: it was read to its end, or one byte more than a text may
-- have was taken
abbrev pub IsRead : Option (List ℕ) → Option (List ℕ) → Type 0
IsRead before now = IfSome before (λ bytes. now ≡ Some (drop (most_bytes + 1) bytes))
