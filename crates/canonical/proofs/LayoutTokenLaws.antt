-- Lexing a token from its spelling, where what stands behind it can't be a part of it.
use Rattle.std.proofs.Common.{◌≡◌, ℕ, ◌+◌, ◌-◌, ◌*◌, ◌%◌, ◌^◌, ◌<◌, ◌≤◌, List, [], ◌∷◌, ◌++◌, length, refl, ◌∙◌, ap, arith, None, Bool, true, false, nat_lt, nat_le}
use Rattle.std.specs.Prelude.{◌||◌}
use Rattle.std.specs.Fmt.{decimal as decimal_text}
use Rattle.std.proofs.lemmas.Fmt.{decimal_by_steps}
use Rattle.std.proofs.lemmas.Bool.{lt-ltb, le-leb}
use Rattle.nest_tokens.specs.declared.token.Token.{Token}
use Rattle.nest_tokens.specs.declared.token.Token.TheVariants as token
use Rattle.nest_tokens.specs.Tokens.{keyword_of}
use Rattle.nest_tokens.specs.Lexing.{is_letter, is_digit, is_name_byte, decimal_from, decimal, numbered, name_of, named, lexed}
use Rattle.nest_tokens.specs.Division.{Begins, Stops, AllPass}
use Rattle.nest_tokens.proofs.SpelledLaws.{lexed-run, lexed-digits}

-- Names and keywords

named-name : (s : List ℕ) → length s ≤ 32 → keyword_of s ≡ None → named s ≡ token.Name (name_of s)
unfolding named
named-name s h w = let t : nat_lt 32 (length s) ≡ false = not-less 32 (length s) h in rw (t, w) refl
  where
    not-less : (a b : ℕ) → b ≤ a → nat_lt a b ≡ false
    not-less a b h = grind arith

pub lexed-name : (s bs : List ℕ) → length s ≤ 32 → Begins is_letter s → AllPass is_name_byte s → keyword_of s ≡ None → Stops is_name_byte bs → lexed (s ++ bs) ≡ record { token = token.Name (name_of s); len = length s }
lexed-name s bs h b a w k = lexed-run s bs b a k ∙ ap (λ (t : Token). record { token = t; len = length s }) (named-name s h w)

-- Numbers

decimal_from-append : (n : ℕ) (ds es : List ℕ) → decimal_from n (ds ++ es) ≡ decimal_from (decimal_from n ds) es
decimal_from-append n [] es = refl
decimal_from-append n (d ∷ ds) es = decimal_from-append (n * 10 + (d - 48)) ds es

all-append : (p : ℕ → Bool) (xs ys : List ℕ) → AllPass p xs → AllPass p ys → AllPass p (xs ++ ys)
all-append p [] ys a b = b
all-append p (x ∷ xs) ys a b = (a.0, all-append p xs ys a.1 b)

begins-append : (p : ℕ → Bool) (xs ys : List ℕ) → Begins p xs → Begins p (xs ++ ys)
begins-append p [] ys h = absurd h
begins-append p (x ∷ xs) ys h = h

digit-glyph : (n : ℕ) → n < 10 → is_digit (48 + n) ≡ true
digit-glyph n h = let a : nat_le 48 (48 + n) ≡ true = le-leb 48 (48 + n) (omega arith) in let b : nat_le (48 + n) 57 ≡ true = le-leb (48 + n) 57 (omega arith) in rw (a, b) refl

-- how a number is written
abbrev Digits : ℕ → List ℕ → Type 0
Digits n ds = Begins is_digit ds × AllPass is_digit ds × (decimal_from 0 ds ≡ n)

digits : (n : ℕ) → n < 2 ^ 64 → Digits n (decimal_text n)
digits = decimal_by_steps Digits
    (λ n h. (digit-glyph n h, (digit-glyph n h, tt), omega arith))
    (λ n ds h d. (
    let l : n % 10 < 10 = omega arith in
    (begins-append is_digit ds ((48 + n % 10) ∷ []) d.0, all-append is_digit ds ((48 + n % 10) ∷ []) d.1 (digit-glyph (n % 10) l, tt), decimal_from-append 0 ds ((48 + n % 10) ∷ []) ∙ ap (λ (m : ℕ). m * 10 + ((48 + n % 10) - 48)) d.2 ∙ omega arith)))

no-name-no-digit : (bs : List ℕ) → Stops is_name_byte bs → Stops is_digit bs
no-name-no-digit [] h = tt
no-name-no-digit (b ∷ bs) h = no-digit b h
  where
    no-digit : (b : ℕ) → is_name_byte b ≡ false → is_digit b ≡ false
    no-digit b h = elim (is_digit b) as (λ t. (is_letter b || t) ≡ false → t ≡ false) [ true ↦ λ k. elim (is_letter b) as (λ u. (u || true) ≡ false → true ≡ false) [ true ↦ λ j. j | false ↦ λ j. j ] k | false ↦ λ k. refl ] h

numbered-is : (n : ℕ) → n < 2 ^ 63 → (ds : List ℕ) → decimal_from 0 ds ≡ n → numbered ds ≡ token.Number n
unfolding numbered decimal
numbered-is n h ds e = let t : nat_lt n (2 ^ 63) ≡ true = lt-ltb n (2 ^ 63) h in rw (e, t) refl

pub lexed-number : (n : ℕ) (bs : List ℕ) → n < 2 ^ 63 → Stops is_name_byte bs → lexed (decimal_text n ++ bs) ≡ record { token = token.Number n; len = length (decimal_text n) }
lexed-number n bs h k =
    let d : Digits n (decimal_text n) = digits n (omega arith) in
    lexed-digits (decimal_text n) bs d.0 d.1 (no-name-no-digit bs k) ∙ ap (λ (t : Token). record { token = t; len = length (decimal_text n) }) (numbered-is n h (decimal_text n) d.2)

pub number-begins : (n : ℕ) → n < 2 ^ 63 → Begins is_digit (decimal_text n)
number-begins n h = (digits n (omega arith)).0
