-- Whatever divides a text is its tokens.
use Rattle.std.proofs.Common.{◌≡◌, ℕ, ◌-◌, ◌≤◌, List, [], ◌∷◌, ◌++◌, length, take, drop, Bool, true, false, refl, sym, ◌∙◌, ap, arith, subst, Option, Some, None, inl, inr, ◌==◌}
use Rattle.std.specs.Prelude.{◌&&◌, not}
use Rattle.std.proofs.lemmas.Bool.{and_parts, not-true}
use Rattle.std.proofs.lemmas.List.{take-append-drop}
use Rattle.nest_tokens.specs.declared.token.Mark.{Mark}
use Rattle.nest_tokens.specs.declared.token.Token.{Token}
use Rattle.nest_tokens.specs.declared.token.Token.TheVariants as token
use Rattle.nest_tokens.specs.declared.token.Spot.{Spot}
use Rattle.nest_tokens.specs.Tokens.{spelling, sign_at, signs}
use Rattle.nest_tokens.specs.Lexing.{is_letter, is_digit, is_blank, between, gap, lexed, sign_or_byte, tokens_from}
use Rattle.nest_tokens.specs.Division.{Gap, none, blank, opens, inside, closes, IsOneOf, IsSign, StandsAt, Spells, name, number, sign, bad_byte, Divides, ends, goes_on, OneDivision}
use Rattle.nest_tokens.proofs.MarkLaws.{same-mark}
use Rattle.nest_tokens.proofs.NameLaws.{sign-begins}
use Rattle.nest_tokens.proofs.PlaceLaws.{gap-stays, tokens-nil, tokens-gap, tokens-cons, spelling-moves}
use Rattle.nest_tokens.proofs.SignLaws.{found_len, sign_at-sign, sign_at-longest}
use Rattle.nest_tokens.proofs.SpelledLaws.{take-front, drop-front, lexed-other, lexed-run, lexed-digits}

-- a gap is left out
gap-append : {c d : Bool} {g : List ℕ} → Gap c g d → (bs : List ℕ) → gap c (g ++ bs) ≡ gap d bs
unfolding gap between
gap-append none bs = refl
gap-append (blank e i) bs = rw e (gap-append i bs)
gap-append (opens {b} e i) bs = let k : is_blank b ≡ false = grind arith in rw (k, e) (gap-append i bs)
gap-append (inside e i) bs = rw e (gap-append i bs)
gap-append (closes e i) bs = rw e (gap-append i bs)

gap-nil : (c : Bool) → gap c [] ≡ []
unfolding gap
gap-nil c = refl

gap-whole : {c d : Bool} {g : List ℕ} → Gap c g d → gap c g ≡ []
unfolding gap between
gap-whole none = refl
gap-whole (blank e i) = rw e (gap-whole i)
gap-whole (opens {b} e i) = let k : is_blank b ≡ false = grind arith in rw (k, e) (gap-whole i)
gap-whole (inside e i) = rw e (gap-whole i)
gap-whole (closes e i) = rw e (gap-whole i)

solid : (b : ℕ) → is_blank b ≡ false → (b == 35) ≡ false → between false b ≡ None
unfolding between
solid b h k = rw (h, k) refl

pub letter-solid : (b : ℕ) → is_letter b ≡ true → between false b ≡ None
letter-solid b h = let k : is_blank b ≡ false = grind arith in let l : (b == 35) ≡ false = grind arith in solid b k l

pub digit-solid : (b : ℕ) → is_digit b ≡ true → between false b ≡ None
digit-solid b h = let k : is_blank b ≡ false = grind arith in let l : (b == 35) ≡ false = grind arith in solid b k l

-- how a spelled token begins, and what it lexes as
record Front (s rest : List ℕ) (t : Token) : Type 0 where
  b : ℕ
  bs : List ℕ
  is : s ≡ b ∷ bs
  solid : between false b ≡ None
  lexes : lexed (s ++ rest) ≡ record { token = t; len = length s }

-- how the signs begin
abbrev is-other : List ℕ → Bool
is-other [] = false
is-other (b ∷ bs) = not (is_letter b) && (not (is_digit b) && (not (is_blank b) && not (b == 35)))

abbrev all-other : List Mark → Bool
all-other [] = true
all-other (x ∷ xs) = is-other (spelling x) && all-other xs

others : all-other signs ≡ true
unfolding spelling
others = refl

other : (xs : List Mark) (m : Mark) → all-other xs ≡ true → IsOneOf xs m → is-other (spelling m) ≡ true
other [] m h i = absurd i
other (x ∷ xs) m h (inl e) = rw e ((and_parts (is-other (spelling x)) (all-other xs) h).0)
other (x ∷ xs) m h (inr i) = other xs m ((and_parts (is-other (spelling x)) (all-other xs) h).1) i

-- a sign that stands here
stands : (text : List ℕ) (m : Mark) → sign_at text ≡ Some m → StandsAt text m
stands text m h = (drop (length (spelling m)) text, sym (take-append-drop (length (spelling m)) text) ∙ ap (λ (l : List ℕ). l ++ drop (length (spelling m)) text) (sym (sign-begins text m h)))

sign-found : (m : Mark) (rest : List ℕ) → IsSign m → ((k : Mark) → IsSign k → StandsAt (spelling m ++ rest) k → length (spelling k) ≤ length (spelling m)) → (o : Option Mark) → sign_at (spelling m ++ rest) ≡ o → sign_at (spelling m ++ rest) ≡ Some m
sign-found m rest i longest None e = absurd (
    let a : length (spelling m) ≤ found_len (sign_at (spelling m ++ rest)) = sign_at-longest (spelling m ++ rest) m i (rest, refl) in
    let z : found_len (sign_at (spelling m ++ rest)) ≡ 0 = ap found_len e in
    omega (arith, spelling-moves m))
sign-found m rest i longest (Some k) e =
    let a : length (spelling m) ≤ found_len (sign_at (spelling m ++ rest)) = sign_at-longest (spelling m ++ rest) m i (rest, refl) in
    let z : found_len (sign_at (spelling m ++ rest)) ≡ length (spelling k) = ap found_len e in
    let b : length (spelling k) ≤ length (spelling m) = longest k (sign_at-sign (spelling m ++ rest) k e) (stands (spelling m ++ rest) k e) in
    let n : length (spelling k) ≡ length (spelling m) = omega arith in
    let p : spelling k ≡ take (length (spelling k)) (spelling m ++ rest) = sign-begins (spelling m ++ rest) k e in
    let q : spelling k ≡ spelling m = p ∙ ap (λ (j : ℕ). take j (spelling m ++ rest)) n ∙ take-front (spelling m) rest in
    e ∙ ap (λ (x : Mark). Some x) (same-mark k m q)

sign-front : (m : Mark) (rest : List ℕ) → is-other (spelling m) ≡ true → sign_at (spelling m ++ rest) ≡ Some m → (l : List ℕ) → spelling m ≡ l → Front (spelling m) rest (token.Plain m)
sign-front m rest o e [] q = absurd (let k : is-other [] ≡ true = subst (λ (l : List ℕ). is-other l ≡ true) q o in cc)
sign-front m rest o e (b ∷ bs) q =
    let k : is-other (b ∷ bs) ≡ true = subst (λ (l : List ℕ). is-other l ≡ true) q o in
    let k1 = (and_parts (not (is_letter b)) (not (is_digit b) && (not (is_blank b) && not (b == 35))) k).1 in
    let k2 = (and_parts (not (is_digit b)) (not (is_blank b) && not (b == 35)) k1).1 in
    let l : is_letter b ≡ false = not-true (is_letter b) ((and_parts (not (is_letter b)) (not (is_digit b) && (not (is_blank b) && not (b == 35))) k).0) in
    let d : is_digit b ≡ false = not-true (is_digit b) ((and_parts (not (is_digit b)) (not (is_blank b) && not (b == 35)) k1).0) in
    record {
      b = b;
      bs = bs;
      is = q;
      solid = solid b (not-true (is_blank b) ((and_parts (not (is_blank b)) (not (b == 35)) k2).0)) (not-true (b == 35) ((and_parts (not (is_blank b)) (not (b == 35)) k2).1));
      lexes = ap (λ (x : List ℕ). lexed (x ++ rest)) q ∙ lexed-other b (bs ++ rest) l d ∙ ap (λ (x : List ℕ). sign_or_byte (sign_at (x ++ rest))) (sym q) ∙ ap sign_or_byte e;
    }

no-sign : (text : List ℕ) → ((k : Mark) → IsSign k → StandsAt text k → ⊥) → (o : Option Mark) → sign_at text ≡ o → sign_at text ≡ None
no-sign text h None e = e
no-sign text h (Some m) e = absurd (h m (sign_at-sign text m e) (stands text m e))

front : {s rest : List ℕ} {t : Token} → Spells s rest t → Front s rest t
front (name {s = []} beg all stop) = absurd beg
front (name {s = b ∷ bs} {rest} beg all stop) = record { b = b; bs = bs; is = refl; solid = letter-solid b beg; lexes = lexed-run (b ∷ bs) rest beg all stop }
front (number {s = []} beg all stop) = absurd beg
front (number {s = b ∷ bs} {rest} beg all stop) = record { b = b; bs = bs; is = refl; solid = digit-solid b beg; lexes = lexed-digits (b ∷ bs) rest beg all stop }
front (sign {m} {s} {rest} e i longest) = subst (λ (l : List ℕ). Front l rest (token.Plain m)) (sym e)
    (sign-front m rest (other signs m others i) (sign-found m rest i (subst (λ (l : List ℕ). (k : Mark) → IsSign k → StandsAt (l ++ rest) k → length (spelling k) ≤ length l) e longest) (sign_at (spelling m ++ rest)) refl) (spelling m) refl)
front (bad_byte {b} {rest} h k l d n) = record {
  b = b;
  bs = [];
  is = refl;
  solid = solid b h k;
  lexes = lexed-other b rest l d ∙ ap sign_or_byte (no-sign (b ∷ rest) n (sign_at (b ∷ rest)) refl);
}

next : (size : ℕ) (b : ℕ) (bs rest : List ℕ) (t : Token) → between false b ≡ None → lexed ((b ∷ bs) ++ rest) ≡ record { token = t; len = length (b ∷ bs) } → tokens_from size ((b ∷ bs) ++ rest) ≡ record { at = size - length ((b ∷ bs) ++ rest); token = t } ∷ tokens_from size rest
next size b bs rest t h e =
    tokens-cons size b (bs ++ rest) (gap-stays b (bs ++ rest) h)
    ∙ ap (λ x. record { at = size - length ((b ∷ bs) ++ rest); token = x.token } ∷ tokens_from size (drop x.len ((b ∷ bs) ++ rest))) e
    ∙ ap (λ (l : List ℕ). record { at = size - length ((b ∷ bs) ++ rest); token = t } ∷ tokens_from size l) (drop-front (b ∷ bs) rest)

next-of : (size : ℕ) (s rest : List ℕ) (t : Token) → Front s rest t → (tokens_from size (s ++ rest) ≡ record { at = size - length (s ++ rest); token = t } ∷ tokens_from size rest) × (gap false (s ++ rest) ≡ s ++ rest)
next-of size s rest t f =
    let e : lexed ((f.b ∷ f.bs) ++ rest) ≡ record { token = t; len = length (f.b ∷ f.bs) } = subst (λ (l : List ℕ). lexed (l ++ rest) ≡ record { token = t; len = length l }) f.is f.lexes in
    subst (λ (l : List ℕ). (tokens_from size (l ++ rest) ≡ record { at = size - length (l ++ rest); token = t } ∷ tokens_from size rest) × (gap false (l ++ rest) ≡ l ++ rest)) (sym f.is) (next size f.b f.bs rest t f.solid e, gap-stays f.b (f.bs ++ rest) f.solid)

divided : (size : ℕ) {bs : List ℕ} {spots : List Spot} → Divides size bs spots → spots ≡ tokens_from size bs
divided size (ends {g} i) = sym (tokens-nil size) ∙ tokens-gap size g [] (sym (gap-whole i))
divided size (goes_on {g} {s} {rest} {t} {spots} i j k) =
    let n = next-of size s rest t (front j) in
    let q : s ++ rest ≡ gap false (g ++ (s ++ rest)) = sym (n.1) ∙ sym (gap-append i (s ++ rest)) in
    ap (λ (l : List Spot). record { at = size - length (s ++ rest); token = t } ∷ l) (divided size k) ∙ sym n.0 ∙ tokens-gap size (g ++ (s ++ rest)) (s ++ rest) q

pub one-division : OneDivision
one-division text spots others a b = divided (length text) a ∙ sym (divided (length text) b)

pub ruleset one = (one-division)
