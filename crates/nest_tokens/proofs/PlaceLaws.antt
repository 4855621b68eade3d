-- Places: the tokens from a place of a text on.
use Rattle.std.proofs.Common.{◌≡◌, ℕ, zero, suc, ◌+◌, ◌-◌, ◌<◌, ◌≤◌, List, [], ◌∷◌, length, drop, drop-drop, length-drop, refl, sym, ◌∙◌, ap, arith, Option, Some, None, Bool, true, false, cond}
use Rattle.std.proofs.lemmas.List.{drop_all}
use Rattle.std.specs.List.{prefix_len}
use Rattle.nest_tokens.specs.declared.token.Token.{Token}
use Rattle.nest_tokens.specs.declared.token.Token.TheVariants as token
use Rattle.nest_tokens.specs.declared.token.Mark.{Mark}
use Rattle.nest_tokens.specs.declared.token.Mark.TheVariants as mark
use Rattle.nest_tokens.specs.declared.token.Spot.{Spot}
use Rattle.nest_tokens.specs.Tokens.{spelling, sign_at}
use Rattle.nest_tokens.specs.Lexing.{is_letter, is_digit, is_name_byte, between, gap, gap_at, lexed, spelled_by, sign_or_byte, named, numbered, spots, spots_at, tokens_from}
use Rattle.nest_tokens.specs.Ahead.{first, past}
use Rattle.nest_tokens.specs.Placed.{Placed}

pub gap-no-longer : (c : Bool) (bs : List ℕ) → length (gap c bs) ≤ length bs
unfolding gap
gap-no-longer c [] = omega arith
gap-no-longer c (b ∷ bs) = elim (between c b) as (λ o. length (gap_at (λ d. gap d bs) (b ∷ bs) o) ≤ length (b ∷ bs))
    [ None ↦ omega arith | Some d ↦ (let h : length (gap d bs) ≤ length bs = gap-no-longer d bs in omega arith) ]

-- where a token begins, it begins whatever came before
none-again : (c : Bool) (b : ℕ) → between c b ≡ None → between false b ≡ None
unfolding between
none-again true b h = absurd (cc)
none-again false b h = h

gap-same : (c : Bool) (bs : List ℕ) → gap false (gap c bs) ≡ gap c bs
unfolding gap
gap-same c [] = refl
gap-same c (b ∷ bs) = elim (between c b) as (λ o. between c b ≡ o → gap false (gap_at (λ d. gap d bs) (b ∷ bs) o) ≡ gap_at (λ d. gap d bs) (b ∷ bs) o)
    [ None ↦ λ e. (let h : between false b ≡ None = none-again c b e in rw h) | Some d ↦ λ e. gap-same d bs ] refl

pub spelling-moves : (m : Mark) → 0 < length (spelling m)
unfolding spelling
spelling-moves mark.OpenBrace = omega arith
spelling-moves mark.CloseBrace = omega arith
spelling-moves mark.Open = omega arith
spelling-moves mark.Close = omega arith
spelling-moves mark.OpenBracket = omega arith
spelling-moves mark.CloseBracket = omega arith
spelling-moves mark.Assign = omega arith
spelling-moves mark.Equal = omega arith
spelling-moves mark.NotEqual = omega arith
spelling-moves mark.Less = omega arith
spelling-moves mark.AtMost = omega arith
spelling-moves mark.Greater = omega arith
spelling-moves mark.AtLeast = omega arith
spelling-moves mark.Plus = omega arith
spelling-moves mark.Minus = omega arith
spelling-moves mark.Times = omega arith
spelling-moves mark.Divide = omega arith
spelling-moves mark.Remainder = omega arith
spelling-moves mark.Colon = omega arith
spelling-moves mark.Comma = omega arith
spelling-moves mark.Semicolon = omega arith
spelling-moves mark.Nest = omega arith
spelling-moves mark.Scalar = omega arith
spelling-moves mark.Memory = omega arith
spelling-moves mark.Data = omega arith
spelling-moves mark.Ramp = omega arith
spelling-moves mark.Candidate = omega arith
spelling-moves mark.For = omega arith
spelling-moves mark.Below = omega arith
spelling-moves mark.Step = omega arith
spelling-moves mark.While = omega arith
spelling-moves mark.Let = omega arith
spelling-moves mark.If = omega arith
spelling-moves mark.Else = omega arith

sign-moves : (o : Option Mark) → 0 < (sign_or_byte o).len
sign-moves (Some m) = spelling-moves m
sign-moves None = omega arith

prefix-moves : (p : ℕ → Bool) (b : ℕ) (bs : List ℕ) → p b ≡ true → 0 < prefix_len p (b ∷ bs)
prefix-moves p b bs h = rw h (omega arith)

pub gap-stays : (b : ℕ) (bs : List ℕ) → between false b ≡ None → gap false (b ∷ bs) ≡ b ∷ bs
unfolding gap
gap-stays b bs h = rw h refl

pub letter-named : (b : ℕ) → is_letter b ≡ true → is_name_byte b ≡ true
letter-named b h = rw h

pub lexed-moves : (b : ℕ) (bs : List ℕ) → 0 < (lexed (b ∷ bs)).len
unfolding lexed
lexed-moves b bs = elim (is_letter b) as (λ t. is_letter b ≡ t → 0 < (cond t (spelled_by (b ∷ bs) (prefix_len is_name_byte (b ∷ bs)) named) (cond (is_digit b) (spelled_by (b ∷ bs) (prefix_len is_digit (b ∷ bs)) numbered) (sign_or_byte (sign_at (b ∷ bs))))).len) [
  | true ↦ λ e. prefix-moves is_name_byte b bs (letter-named b e)
  | false ↦ λ e. elim (is_digit b) as (λ u. is_digit b ≡ u → 0 < (cond u (spelled_by (b ∷ bs) (prefix_len is_digit (b ∷ bs)) numbered) (sign_or_byte (sign_at (b ∷ bs)))).len)
      [ true ↦ λ k. prefix-moves is_digit b bs k | false ↦ λ k. sign-moves (sign_at (b ∷ bs)) ] refl
] refl

spots-nil : (n size : ℕ) → spots n size [] ≡ []
unfolding spots gap
spots-nil zero size = refl
spots-nil (suc n) size = refl

-- any bound that is large enough gives the same tokens
spots-any : (n m size : ℕ) (bs : List ℕ) → length bs ≤ n → length bs ≤ m → spots n size bs ≡ spots m size bs
unfolding spots
spots-any zero m size [] hn hm = sym (spots-nil m size)
spots-any zero m size (b ∷ bs) hn hm = absurd (omega arith)
spots-any (suc n) zero size [] hn hm = spots-nil (suc n) size
spots-any (suc n) zero size (b ∷ bs) hn hm = absurd (omega arith)
spots-any (suc n) (suc m) size bs hn hm = elim (gap false bs) as (λ l. gap false bs ≡ l → spots_at (spots n size) size l ≡ spots_at (spots m size) size l) [
  | [] ↦ λ e. refl
  | c ∷ cs ↦ λ e. (
      let h : length (gap false bs) ≤ length bs = gap-no-longer false bs in
      let k : length (gap false bs) ≡ suc (length cs) = ap (λ (l : List ℕ). length l) e in
      let w : 0 < (lexed (c ∷ cs)).len = lexed-moves c cs in
      let d : length (drop (lexed (c ∷ cs)).len (c ∷ cs)) ≤ length cs = omega (arith, length-drop (lexed (c ∷ cs)).len (c ∷ cs)) in
      ap (λ (l : List Spot). record { at = size - length (c ∷ cs); token = (lexed (c ∷ cs)).token } ∷ l) (spots-any n m size (drop (lexed (c ∷ cs)).len (c ∷ cs)) (omega arith) (omega arith)))
] refl

spots-suc : (n size : ℕ) (bs : List ℕ) → spots (suc n) size bs ≡ spots_at (spots n size) size (gap false bs)
unfolding spots
spots-suc n size bs = refl

pub tokens-nil : (size : ℕ) → tokens_from size [] ≡ []
unfolding tokens_from
tokens-nil size = spots-nil 0 size

pub tokens-gap : (size : ℕ) (bs cs : List ℕ) → cs ≡ gap false bs → tokens_from size cs ≡ tokens_from size bs
unfolding tokens_from
tokens-gap size bs cs e =
    let l : length cs ≤ length bs = rw e (gap-no-longer false bs) in
    let g : gap false cs ≡ gap false bs = rw e (gap-same false bs) in
    spots-any (length cs) (suc (length bs)) size cs (omega arith) (omega arith)
    ∙ spots-suc (length bs) size cs ∙ ap (spots_at (spots (length bs) size) size) g ∙ sym (spots-suc (length bs) size bs)
    ∙ spots-any (suc (length bs)) (length bs) size bs (omega arith) (omega arith)

pub tokens-cons : (size b : ℕ) (bs : List ℕ) → gap false (b ∷ bs) ≡ b ∷ bs → tokens_from size (b ∷ bs) ≡ record { at = size - length (b ∷ bs); token = (lexed (b ∷ bs)).token } ∷ tokens_from size (drop (lexed (b ∷ bs)).len (b ∷ bs))
unfolding tokens_from spots
tokens-cons size b bs e =
    let w : 0 < (lexed (b ∷ bs)).len = lexed-moves b bs in
    let d : length (drop (lexed (b ∷ bs)).len (b ∷ bs)) ≤ length bs = omega (arith, length-drop (lexed (b ∷ bs)).len (b ∷ bs)) in
    rw e (ap (λ (l : List Spot). record { at = size - suc (length bs); token = (lexed (b ∷ bs)).token } ∷ l) (spots-any (length bs) (length (drop (lexed (b ∷ bs)).len (b ∷ bs))) size (drop (lexed (b ∷ bs)).len (b ∷ bs)) d (omega arith)))

end-token : (lexed []).token ≡ token.End
unfolding lexed
end-token = refl

here-of : (text : List ℕ) (at : ℕ) → at ≤ length text → (l : List ℕ) → drop at text ≡ l → gap false l ≡ l → first (length text) (tokens_from (length text) l) ≡ record { at = at; token = (lexed l).token }
here-of text at h [] e g =
    let k : length (drop at text) ≡ 0 = ap (λ (l : List ℕ). length l) e in
    let q : length text ≡ at = omega (arith, length-drop at text) in
    rw (tokens-nil, end-token) (ap (λ (n : ℕ). record { at = n; token = token.End }) q)
here-of text at h (b ∷ bs) e g =
    let k : length (drop at text) ≡ suc (length bs) = ap (λ (l : List ℕ). length l) e in
    let q : length text - suc (length bs) ≡ at = omega (arith, length-drop at text) in
    rw (tokens-cons (length text) b bs g) (ap (λ (n : ℕ). record { at = n; token = (lexed (b ∷ bs)).token }) q)

pub here-at : (text : List ℕ) (at end : ℕ) (t : Token) → Placed text at end t → first (length text) (tokens_from (length text) (drop at text)) ≡ record { at = at; token = t }
here-at text at end t p = here-of text at p.within (drop at text) refl p.begins ∙ ap (λ (x : Token). record { at = at; token = x }) (sym p.stands)

past-of : (text : List ℕ) (at : ℕ) → at < length text → (l : List ℕ) → drop at text ≡ l → gap false l ≡ l → past (record { left = tokens_from (length text) l; size = length text }) ≡ record { left = tokens_from (length text) (drop (at + (lexed l).len) text); size = length text }
unfolding past
past-of text at h [] e g = absurd (let k : length (drop at text) ≡ 0 = ap (λ (l : List ℕ). length l) e in omega (arith, length-drop at text))
past-of text at h (b ∷ bs) e g =
    let q : drop (lexed (b ∷ bs)).len (b ∷ bs) ≡ drop (at + (lexed (b ∷ bs)).len) text = ap (λ (l : List ℕ). drop (lexed (b ∷ bs)).len l) (sym e) ∙ drop-drop (lexed (b ∷ bs)).len at text in
    rw (tokens-cons (length text) b bs g) (ap (λ (l : List ℕ). record { left = tokens_from (length text) l; size = length text }) q)

pub past-at : (text : List ℕ) (at end : ℕ) (t : Token) → Placed text at end t → at < length text → past (record { left = tokens_from (length text) (drop at text); size = length text }) ≡ record { left = tokens_from (length text) (drop end text); size = length text }
past-at text at end t p h =
    past-of text at h (drop at text) refl p.begins
    ∙ ap (λ (n : ℕ). record { left = tokens_from (length text) (drop n text); size = length text }) (sym p.goes)

pub past-end : (text : List ℕ) (at : ℕ) → length text ≤ at → past (record { left = tokens_from (length text) (drop at text); size = length text }) ≡ record { left = tokens_from (length text) (drop at text); size = length text }
unfolding past
past-end text at h = rw (drop_all, tokens-nil)

pub placed : (text : List ℕ) (at from end : ℕ) (t : Token) → at ≤ length text → end ≤ length text → drop at text ≡ gap false (drop from text) → t ≡ (lexed (drop at text)).token → end ≡ at + (lexed (drop at text)).len → Placed text at end t
placed text at from end t h k g e f = record {
  within = h;
  ends = k;
  begins = rw g (gap-same false (drop from text));
  stands = e;
  goes = f;
}

pub ruleset places = (tokens-gap, here-at, past-at, past-end)
