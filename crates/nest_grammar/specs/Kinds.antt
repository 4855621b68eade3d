-- Kinds: the tokens that a fault of each kind stands at.
use Rattle.std.specs.Prelude.{◌≡◌, ℕ, List, ◌∷◌, ◌++◌, Err, Bool, true, false, is_some}
use Rattle.nest_tokens.specs.declared.token.Mark.TheVariants as mark
use Rattle.nest_tokens.specs.declared.token.Token.{Token}
use Rattle.nest_tokens.specs.declared.token.Token.TheVariants as token
use Rattle.nest_tokens.specs.declared.token.BadToken.TheVariants as bad
use Rattle.nest_tokens.specs.declared.token.Spot.{Spot}
use Rattle.nest_grammar.specs.declared.fault.TextFault.{TextFault}
use Rattle.nest_grammar.specs.declared.fault.TextKind.{TextKind}
use Rattle.nest_grammar.specs.declared.fault.TextKind.TheVariants as kind
use Rattle.nest_grammar.specs.Scripts.{command_word}
use Rattle.nest_grammar.specs.Contents.{reading}
use Rattle.nest_grammar.specs.Beginnings.{with_end}

-- a byte, a number or a name that is no token
abbrev pub is_bad_byte : Token → Bool
is_bad_byte (token.Bad bad.Byte) = true
is_bad_byte _ = false

abbrev pub is_bad_number : Token → Bool
is_bad_number (token.Bad bad.Number) = true
is_bad_number _ = false

abbrev pub is_bad_name : Token → Bool
is_bad_name (token.Bad bad.Name) = true
is_bad_name _ = false

-- a token as it should be, or the end
abbrev pub is_good : Token → Bool
is_good (token.Bad b) = false
is_good _ = true

-- a name, a number, a sign or a keyword
abbrev pub is_solid : Token → Bool
is_solid (token.Bad b) = false
is_solid token.End = false
is_solid _ = true

abbrev pub is_name : Token → Bool
is_name (token.Name n) = true
is_name _ = false

abbrev pub is_number : Token → Bool
is_number (token.Number n) = true
is_number _ = false

-- a number, or the sign before one
abbrev pub begins_number : Token → Bool
begins_number (token.Number n) = true
begins_number (token.Plain mark.Minus) = true
begins_number _ = false

-- a number, or a command's word
abbrev pub is_of_script : Token → Bool
is_of_script (token.Number n) = true
is_of_script (token.Name n) = is_some (command_word (token.Name n))
is_of_script _ = false

-- what begins something of which a file has so many at most: a scalar, a local, an access, a candidate, a command
-- or a nest
abbrev pub is_counted : Token → Bool
is_counted (token.Plain mark.Scalar) = true
is_counted (token.Plain mark.Let) = true
is_counted (token.Plain mark.OpenBracket) = true
is_counted (token.Plain mark.Candidate) = true
is_counted (token.Plain mark.For) = true
is_counted (token.Plain mark.While) = true
is_counted (token.Name n) = is_some (command_word (token.Name n))
is_counted _ = false

abbrev pub is_close_brace : Token → Bool
is_close_brace (token.Plain mark.CloseBrace) = true
is_close_brace _ = false

-- whether a fault of this kind may stand at this token
abbrev pub comes_at : TextKind → Token → Bool
comes_at kind.Long t = false
comes_at kind.Byte t = is_bad_byte t
comes_at kind.Number t = is_bad_number t
comes_at kind.Name t = is_bad_name t
comes_at kind.Expected t = is_good t
comes_at kind.Version t = is_number t
comes_at kind.Known t = is_name t
comes_at kind.Unknown t = is_name t
comes_at kind.Fixed t = is_name t
comes_at kind.Many t = is_counted t
comes_at kind.Deep t = is_solid t
comes_at kind.Range t = begins_number t
comes_at kind.Empty t = is_close_brace t
comes_at kind.Script t = is_of_script t

-- the fault stands at this token of the text, at which its kind may come
pub record StandsAtItsToken (text : List ℕ) (f : TextFault) : Type 0 where
  pub before : List Spot
  pub spot : Spot
  pub behind : List Spot
  pub tokens : with_end text ≡ before ++ spot ∷ behind
  pub at : f.at ≡ spot.at
  pub comes : comes_at f.what spot.token ≡ true

-- Each fault stands at a token at which its kind may come. So Byte, Number and Name stand exactly at what is no
-- token, and no other kind does.
abbrev pub FaultAtItsToken : Type 0
FaultAtItsToken = (text : List ℕ) (f : TextFault) → reading text ≡ Err f → (f.what ≡ kind.Long → ⊥) → StandsAtItsToken text f
