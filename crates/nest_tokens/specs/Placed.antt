-- A cursor in a text: the token that stands there, and where it ends.
use Rattle.std.specs.Prelude.{◌≡◌, ℕ, ◌+◌, ◌≤◌, List, length, drop, false}
use Rattle.nest_tokens.specs.declared.token.Token.{Token}
use Rattle.nest_tokens.specs.Lexing.{lexed, gap}

pub record Placed (text : List ℕ) (at end : ℕ) (t : Token) : Type 0 where
  pub within : at ≤ length text
  pub ends : end ≤ length text
  pub begins : gap false (drop at text) ≡ drop at text
  pub stands : t ≡ (lexed (drop at text)).token
  pub goes : end ≡ at + (lexed (drop at text)).len
