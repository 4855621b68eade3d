-- Each token of a text is written as a token is, or is refused wherever it stands.
use Rattle.std.proofs.Common.{◌≡◌, ℕ, ◌^◌, ◌≤◌, List, [], ◌∷◌, length, refl, arith, Option, Some, None, true, false, cond, nat_lt}
use Rattle.std.proofs.lemmas.Bool.{ltb-true}
use Rattle.nest_tokens.specs.declared.token.Mark.{Mark}
use Rattle.nest_tokens.specs.declared.token.Token.{Token}
use Rattle.nest_tokens.specs.declared.token.Token.TheVariants as token
use Rattle.nest_tokens.specs.declared.token.BadToken.TheVariants as bad
use Rattle.nest_tokens.specs.declared.token.Spot.{Spot}
use Rattle.nest_tokens.specs.Tokens.{keyword_of}
use Rattle.nest_tokens.specs.Lexing.{is_letter, is_name_byte, decimal, numbered, keyword_or_name, named, tokens}
use Rattle.nest_tokens.specs.Division.{Begins, AllPass, Spells, name, number, sign, bad_byte, Divides, ends, goes_on}
use Rattle.nest_tokens.proofs.DividingLaws.{tokens-divide}
use Rattle.canonical.specs.Layout.{IsWritten}

-- written as a token is, unless it is none
abbrev pub Writable : Token → Type 0
Writable (token.Bad b) = Unit {0}
Writable (token.Name n) = IsWritten (token.Name n)
Writable (token.Number n) = IsWritten (token.Number n)
Writable (token.Plain m) = Unit {0}
Writable token.End = ⊥

abbrev pub AllWritable : List Spot → Type 0
AllWritable [] = Unit {0}
AllWritable (x ∷ xs) = Writable x.token × AllWritable xs

word-writable : (s : List ℕ) → length s ≤ 32 → Begins is_letter s → AllPass is_name_byte s → (o : Option Mark) → keyword_of s ≡ o → Writable (keyword_or_name o s)
word-writable s h b a (Some m) e = tt
word-writable s h b a None e = (s, refl, h, b, a, e)

named-writable : (s : List ℕ) → Begins is_letter s → AllPass is_name_byte s → Writable (named s)
unfolding named
named-writable s b a = elim (nat_lt 32 (length s)) as (λ t. nat_lt 32 (length s) ≡ t → Writable (cond t (token.Bad bad.Name) (keyword_or_name (keyword_of s) s))) [
  | true ↦ λ e. tt
  | false ↦ λ e. word-writable s (not-more 32 (length s) e) b a (keyword_of s) refl
] refl
  where
    not-more : (a b : ℕ) → nat_lt a b ≡ false → b ≤ a
    not-more a b h = grind arith

numbered-writable : (s : List ℕ) → Writable (numbered s)
unfolding numbered
numbered-writable s = elim (nat_lt (decimal s) (2 ^ 63)) as (λ t. nat_lt (decimal s) (2 ^ 63) ≡ t → Writable (cond t (token.Number (decimal s)) (token.Bad bad.Number))) [
  | true ↦ λ e. ltb-true (decimal s) (2 ^ 63) e
  | false ↦ λ e. tt
] refl

spelled-writable : {s rest : List ℕ} {t : Token} → Spells s rest t → Writable t
spelled-writable (name {s} b a k) = named-writable s b a
spelled-writable (number {s} b a k) = numbered-writable s
spelled-writable (sign e i l) = tt
spelled-writable (bad_byte a b c d e) = tt

divided-writable : {size : ℕ} {bs : List ℕ} {spots : List Spot} → Divides size bs spots → AllWritable spots
divided-writable (ends g) = tt
divided-writable (goes_on g s d) = (spelled-writable s, divided-writable d)

pub tokens-writable : (text : List ℕ) → AllWritable (tokens text)
tokens-writable text = divided-writable (tokens-divide text)

-- one that a text has, and that is not refused
pub writable-written : (t : Token) → Writable t → ((b : _) → t ≡ token.Bad b → ⊥) → IsWritten t
writable-written (token.Bad b) w h = absurd (h b refl)
writable-written (token.Name n) w h = w
writable-written (token.Number n) w h = w
writable-written (token.Plain m) w h = tt
writable-written token.End w h = absurd w
