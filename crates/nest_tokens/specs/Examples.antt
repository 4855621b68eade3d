-- Examples of tokens, each computed.
use Rattle.std.specs.Prelude.{◌≡◌, ℕ, [], ◌∷◌, codes}
use Rattle.nest_tokens.specs.declared.token.Token.{Token}
use Rattle.nest_tokens.specs.declared.token.Token.TheVariants as token
use Rattle.nest_tokens.specs.declared.token.BadToken.TheVariants as bad
use Rattle.nest_tokens.specs.declared.token.Mark.TheVariants as mark
use Rattle.nest_tokens.specs.declared.token.Spot.{Spot}
use Rattle.nest_tokens.specs.Lexing.{name_of, tokens}

abbrev pub spot : ℕ → Token → Spot
spot at t = record { at = at; token = t }

pub record TokenExamples : Type 0 where
  -- a comment separates, and so does nothing at all
  pub separated : tokens (codes "for#below\n3abc") ≡ spot 0 (token.Plain mark.For) ∷ spot 10 (token.Number 3) ∷ spot 11 (token.Name (name_of (codes "abc"))) ∷ []
  -- the longest sign is taken
  pub longest : tokens (codes "<==<") ≡ spot 0 (token.Plain mark.AtMost) ∷ spot 2 (token.Plain mark.Assign) ∷ spot 3 (token.Plain mark.Less) ∷ []
  -- `!` alone begins no token
  pub bad_byte : tokens (codes "!=!") ≡ spot 0 (token.Plain mark.NotEqual) ∷ spot 2 (token.Bad bad.Byte) ∷ []
  pub leading_zeros : tokens (codes "007") ≡ spot 0 (token.Number 7) ∷ []
  pub greatest : tokens (codes "9223372036854775807 9223372036854775808") ≡ spot 0 (token.Number 9223372036854775807) ∷ spot 20 (token.Bad bad.Number) ∷ []
  -- names of 32 and of 33 bytes
  pub longest_name : tokens (codes "abcdefghijklmnopqrstuvwxyz_01234") ≡ spot 0 (token.Name (name_of (codes "abcdefghijklmnopqrstuvwxyz_01234"))) ∷ []
  pub long_name : tokens (codes "abcdefghijklmnopqrstuvwxyz_012345") ≡ spot 0 (token.Bad bad.Name) ∷ []
  -- a comment may reach to the end
  pub nothing : tokens (codes " # nest 1") ≡ []
