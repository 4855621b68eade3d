-- The numbers of a text's tokens are at most 2^63 - 1.
use Rattle.std.proofs.Common.{ℕ, ◌^◌, List, [], ◌∷◌, length, take, true, false, cond, nat_lt, Option, Some, None, refl, sym, subst, ◌≡◌}
use Rattle.std.proofs.lemmas.Bool.{ltb-true}
use Rattle.std.specs.List.{prefix_len}
use Rattle.nest_tokens.specs.declared.token.Mark.{Mark}
use Rattle.nest_tokens.specs.declared.token.Token.{Token}
use Rattle.nest_tokens.specs.declared.token.Token.TheVariants as token
use Rattle.nest_tokens.specs.declared.token.BadToken.TheVariants as bad
use Rattle.nest_tokens.specs.Tokens.{keyword_of, sign_at}
use Rattle.nest_tokens.specs.Lexing.{is_letter, is_digit, is_name_byte, decimal, numbered, FitsI64, keyword_or_name, named, spelled_by, sign_or_byte, lexed}
use Rattle.nest_tokens.specs.Placed.{Placed}

numbered-fits : (ds : List ℕ) → FitsI64 (numbered ds)
unfolding numbered
numbered-fits ds = elim (nat_lt (decimal ds) (2 ^ 63)) as (λ t. nat_lt (decimal ds) (2 ^ 63) ≡ t → FitsI64 (cond t (token.Number (decimal ds)) (token.Bad bad.Number))) [
  | true ↦ λ e. ltb-true (decimal ds) (2 ^ 63) e
  | false ↦ λ e. tt
] refl

word-fits : (keyword : Option Mark) (s : List ℕ) → FitsI64 (keyword_or_name keyword s)
word-fits (Some keyword) s = tt
word-fits None s = tt

named-fits : (s : List ℕ) → FitsI64 (named s)
unfolding named
named-fits s = elim (nat_lt 32 (length s)) as (λ t. FitsI64 (cond t (token.Bad bad.Name) (keyword_or_name (keyword_of s) s))) [ true ↦ tt | false ↦ word-fits (keyword_of s) s ]

sign-fits : (sign : Option Mark) → FitsI64 (sign_or_byte sign).token
sign-fits (Some sign) = tt
sign-fits None = tt

lexed-fits : (bs : List ℕ) → FitsI64 (lexed bs).token
unfolding lexed
lexed-fits [] = tt
lexed-fits (b ∷ bs) = elim (is_letter b) as (λ t. FitsI64 (cond t (spelled_by (b ∷ bs) (prefix_len is_name_byte (b ∷ bs)) named) (cond (is_digit b) (spelled_by (b ∷ bs) (prefix_len is_digit (b ∷ bs)) numbered) (sign_or_byte (sign_at (b ∷ bs))))).token) [
  | true ↦ named-fits (take (prefix_len is_name_byte (b ∷ bs)) (b ∷ bs))
  | false ↦ elim (is_digit b) as (λ t. FitsI64 (cond t (spelled_by (b ∷ bs) (prefix_len is_digit (b ∷ bs)) numbered) (sign_or_byte (sign_at (b ∷ bs)))).token)
      [ true ↦ numbered-fits (take (prefix_len is_digit (b ∷ bs)) (b ∷ bs)) | false ↦ sign-fits (sign_at (b ∷ bs)) ]
]

pub placed-fits : {text : List ℕ} {at end : ℕ} {t : Token} → Placed text at end t → FitsI64 t
placed-fits h = subst FitsI64 (sym h.stands) (lexed-fits _)
