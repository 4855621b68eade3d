-- The tokens of a text divide it.
use Rattle.std.proofs.Common.{◌≡◌, ℕ, zero, suc, ◌+◌, ◌-◌, ◌<◌, ◌≤◌, List, [], ◌∷◌, ◌++◌, length, take, drop, length-drop, refl, sym, ◌∙◌, ap, arith, subst, Option, Some, None, Bool, true, false, cond, ◌==◌}
use Rattle.std.proofs.lemmas.List.{take-append-drop, append-nil}
use Rattle.std.specs.List.{prefix_len}
use Rattle.nest_tokens.specs.declared.token.Mark.{Mark}
use Rattle.nest_tokens.specs.declared.token.Spot.{Spot}
use Rattle.nest_tokens.specs.Tokens.{spelling, sign_at}
use Rattle.nest_tokens.specs.Lexing.{is_letter, is_digit, is_name_byte, is_blank, between, gap, Lexed, lexed, spelled_by, sign_or_byte, named, numbered, spots, spots_at, tokens_from}
use Rattle.nest_tokens.specs.Division.{Gap, none, blank, opens, inside, closes, Begins, Stops, AllPass, StandsAt, Spells, name, number, sign, bad_byte, Divides, ends, goes_on, TokensDivide}
use Rattle.nest_tokens.proofs.PlaceLaws.{gap-stays, letter-named, lexed-moves, gap-no-longer, spelling-moves}
use Rattle.nest_tokens.proofs.SignLaws.{found_len, sign_at-sign, sign_at-longest}
use Rattle.nest_tokens.proofs.NameLaws.{sign-begins}

-- a text is a gap and what is left behind it
record Parted (c : Bool) (bs : List ℕ) : Type 0 where
  g : List ℕ
  d : Bool
  is : Gap c g d
  splits : bs ≡ g ++ gap c bs
  closed : (x : ℕ) (xs : List ℕ) → gap c bs ≡ x ∷ xs → (d ≡ false) × (between false x ≡ None)

gap-goes : (c d : Bool) (b : ℕ) (bs : List ℕ) → between c b ≡ Some d → gap c (b ∷ bs) ≡ gap d bs
unfolding gap
gap-goes c d b bs h = rw h

more-gap : (c k : Bool) (b : ℕ) (bs : List ℕ) → between c b ≡ Some k → ((g : List ℕ) (d : Bool) → Gap k g d → Gap c (b ∷ g) d) → Parted k bs → Parted c (b ∷ bs)
more-gap c k b bs h up p = record {
  g = b ∷ p.g;
  d = p.d;
  is = up p.g p.d p.is;
  splits = ap (λ (l : List ℕ). b ∷ l) p.splits ∙ ap (λ (l : List ℕ). b ∷ (p.g ++ l)) (sym (gap-goes c k b bs h));
  closed = λ x xs e. p.closed x xs (sym (gap-goes c k b bs h) ∙ e);
}

no-gap : (b : ℕ) (bs : List ℕ) → between false b ≡ None → Parted false (b ∷ bs)
no-gap b bs h = record {
  g = [];
  d = false;
  is = none;
  splits = sym (gap-stays b bs h);
  closed = λ x xs e. (let q : b ∷ bs ≡ x ∷ xs = sym (gap-stays b bs h) ∙ e in let r : b ≡ x = cc in (refl, subst (λ (y : ℕ). between false y ≡ None) r h));
}

parted : (c : Bool) (bs : List ℕ) → Parted c bs
unfolding gap between
parted c [] = record { g = []; d = c; is = none; splits = refl; closed = λ x xs e. absurd (cc) }
parted true (b ∷ bs) = elim (b == 10) as (λ t. (b == 10) ≡ t → Parted true (b ∷ bs)) [
  | true ↦ λ e. more-gap true false b bs (rw e) (λ g d i. closes e i) (parted false bs)
  | false ↦ λ e. more-gap true true b bs (rw e) (λ g d i. inside e i) (parted true bs)
] refl
parted false (b ∷ bs) = elim (is_blank b) as (λ t. is_blank b ≡ t → Parted false (b ∷ bs)) [
  | true ↦ λ e. more-gap false false b bs (rw e) (λ g d i. blank e i) (parted false bs)
  | false ↦ λ e. elim (b == 35) as (λ u. (b == 35) ≡ u → Parted false (b ∷ bs)) [
    | true ↦ λ k. more-gap false true b bs (rw (e, k)) (λ g d i. opens k i) (parted true bs)
    | false ↦ λ k. no-gap b bs (rw (e, k))
  ] refl
] refl

begins : (p : ℕ → Bool) (b : ℕ) (bs : List ℕ) → p b ≡ true → Begins p (take (suc (prefix_len p bs)) (b ∷ bs))
begins p b bs h = h

run-passes : (p : ℕ → Bool) (bs : List ℕ) → AllPass p (take (prefix_len p bs) bs)
run-passes p [] = tt
run-passes p (b ∷ bs) = elim (p b) as (λ t. p b ≡ t → AllPass p (take (cond t (1 + prefix_len p bs) 0) (b ∷ bs))) [
  | true ↦ λ e. (let n : 1 + prefix_len p bs ≡ suc (prefix_len p bs) = omega arith in rw n (e, run-passes p bs))
  | false ↦ λ e. tt
] refl

run-stops : (p : ℕ → Bool) (bs : List ℕ) → Stops p (drop (prefix_len p bs) bs)
run-stops p [] = tt
run-stops p (b ∷ bs) = elim (p b) as (λ t. p b ≡ t → Stops p (drop (cond t (1 + prefix_len p bs) 0) (b ∷ bs))) [
  | true ↦ λ e. (let n : 1 + prefix_len p bs ≡ suc (prefix_len p bs) = omega arith in rw n (run-stops p bs))
  | false ↦ λ e. e
] refl

run-begins : (p q : ℕ → Bool) (b : ℕ) (bs : List ℕ) → p b ≡ true → q b ≡ true → Begins q (take (prefix_len p (b ∷ bs)) (b ∷ bs))
run-begins p q b bs h k =
    let n : prefix_len p (b ∷ bs) ≡ suc (prefix_len p bs) = rw h (omega arith) in
    rw n k

-- a token is spelled by the bytes that it takes
abbrev SpelledAs : List ℕ → Lexed → Type 0
SpelledAs bs l = Spells (take l.len bs) (drop l.len bs) l.token

unblank : (b : ℕ) → between false b ≡ None → (is_blank b ≡ false) × ((b == 35) ≡ false)
unfolding between
unblank b h = elim (is_blank b) as (λ t. is_blank b ≡ t → cond t (Some false) (cond (b == 35) (Some true) None) ≡ None → (is_blank b ≡ false) × ((b == 35) ≡ false)) [
  | true ↦ λ e k. absurd (cc)
  | false ↦ λ e. elim (b == 35) as (λ u. (b == 35) ≡ u → cond u (Some true) None ≡ None → (is_blank b ≡ false) × ((b == 35) ≡ false)) [ true ↦ λ i k. absurd (cc) | false ↦ λ i k. (e, i) ] refl
] refl h

sign-spelled : (b : ℕ) (bs : List ℕ) → between false b ≡ None → is_letter b ≡ false → is_digit b ≡ false → (o : Option Mark) → sign_at (b ∷ bs) ≡ o → SpelledAs (b ∷ bs) (sign_or_byte o)
sign-spelled b bs h l d (Some m) e =
    let s : take (length (spelling m)) (b ∷ bs) ≡ spelling m = sym (sign-begins (b ∷ bs) m e) in
    sign s (sign_at-sign (b ∷ bs) m e) (λ k i st. (
    let c : StandsAt (b ∷ bs) k = subst (λ (t : List ℕ). StandsAt t k) (take-append-drop (length (spelling m)) (b ∷ bs)) st in
    let n : length (spelling k) ≤ found_len (sign_at (b ∷ bs)) = sign_at-longest (b ∷ bs) k i c in
    let z : found_len (sign_at (b ∷ bs)) ≡ length (spelling m) = ap found_len e in
    let w : length (take (length (spelling m)) (b ∷ bs)) ≡ length (spelling m) = ap (λ (t : List ℕ). length t) s in
    omega arith))
sign-spelled b bs h l d None e =
    let u = unblank b h in
    bad_byte u.0 u.1 l d (λ k i st. (
    let n : length (spelling k) ≤ found_len (sign_at (b ∷ bs)) = sign_at-longest (b ∷ bs) k i st in
    let z : found_len (sign_at (b ∷ bs)) ≡ 0 = ap found_len e in
    omega (arith, spelling-moves k)))

lexed-spelled : (b : ℕ) (bs : List ℕ) → between false b ≡ None → SpelledAs (b ∷ bs) (lexed (b ∷ bs))
unfolding lexed
lexed-spelled b bs h = elim (is_letter b) as (λ t. is_letter b ≡ t → SpelledAs (b ∷ bs) (cond t (spelled_by (b ∷ bs) (prefix_len is_name_byte (b ∷ bs)) named) (cond (is_digit b) (spelled_by (b ∷ bs) (prefix_len is_digit (b ∷ bs)) numbered) (sign_or_byte (sign_at (b ∷ bs)))))) [
  | true ↦ λ e. name (run-begins is_name_byte is_letter b bs (letter-named b e) e) (run-passes is_name_byte (b ∷ bs)) (run-stops is_name_byte (b ∷ bs))
  | false ↦ λ e. elim (is_digit b) as (λ u. is_digit b ≡ u → SpelledAs (b ∷ bs) (cond u (spelled_by (b ∷ bs) (prefix_len is_digit (b ∷ bs)) numbered) (sign_or_byte (sign_at (b ∷ bs))))) [
    | true ↦ λ k. number (run-begins is_digit is_digit b bs k k) (run-passes is_digit (b ∷ bs)) (run-stops is_digit (b ∷ bs))
    | false ↦ λ k. sign-spelled b bs h e k (sign_at (b ∷ bs)) refl
  ] refl
] refl

next : (size : ℕ) (bs : List ℕ) (c : ℕ) (cs : List ℕ) (spots : List Spot) (p : Parted false bs) → gap false bs ≡ c ∷ cs → Divides size (drop (lexed (c ∷ cs)).len (c ∷ cs)) spots → Divides size bs (record { at = size - length (c ∷ cs); token = (lexed (c ∷ cs)).token } ∷ spots)
next size bs c cs spots p e i =
    let k = p.closed c cs e in
    let n : ℕ = (lexed (c ∷ cs)).len in
    let w : take n (c ∷ cs) ++ drop n (c ∷ cs) ≡ c ∷ cs = take-append-drop n (c ∷ cs) in
    let q : bs ≡ p.g ++ (take n (c ∷ cs) ++ drop n (c ∷ cs)) = p.splits ∙ ap (λ (l : List ℕ). p.g ++ l) (e ∙ sym w) in
    let r : Divides size (p.g ++ (take n (c ∷ cs) ++ drop n (c ∷ cs))) (record { at = size - length (take n (c ∷ cs) ++ drop n (c ∷ cs)); token = (lexed (c ∷ cs)).token } ∷ spots) =
    goes_on (subst (λ (x : Bool). Gap false p.g x) k.0 p.is) (lexed-spelled c cs k.1) i in
    subst (λ (l : List ℕ). Divides size l (record { at = size - length (c ∷ cs); token = (lexed (c ∷ cs)).token } ∷ spots)) (sym q)
    (subst (λ (l : List ℕ). Divides size (p.g ++ (take n (c ∷ cs) ++ drop n (c ∷ cs))) (record { at = size - length l; token = (lexed (c ∷ cs)).token } ∷ spots)) w r)

last : (size : ℕ) (bs : List ℕ) (p : Parted false bs) → gap false bs ≡ [] → Divides size bs []
last size bs p e = let q : bs ≡ p.g = p.splits ∙ ap (λ (l : List ℕ). p.g ++ l) e ∙ append-nil p.g in subst (λ (l : List ℕ). Divides size l []) (sym q) (ends p.is)

spots-divide : (n size : ℕ) (bs : List ℕ) → length bs ≤ n → Divides size bs (spots n size bs)
unfolding spots
spots-divide zero size [] h = ends none
spots-divide zero size (b ∷ bs) h = absurd (omega arith)
spots-divide (suc n) size bs h = elim (gap false bs) as (λ l. gap false bs ≡ l → Divides size bs (spots_at (spots n size) size l)) [
  | [] ↦ λ e. last size bs (parted false bs) e
  | c ∷ cs ↦ λ e. (
      let a : length (gap false bs) ≤ length bs = gap-no-longer false bs in
      let k : length (gap false bs) ≡ suc (length cs) = ap (λ (l : List ℕ). length l) e in
      let w : 0 < (lexed (c ∷ cs)).len = lexed-moves c cs in
      let d : length (drop (lexed (c ∷ cs)).len (c ∷ cs)) ≤ length cs = omega (arith, length-drop (lexed (c ∷ cs)).len (c ∷ cs)) in
      next size bs c cs (spots n size (drop (lexed (c ∷ cs)).len (c ∷ cs))) (parted false bs) e (spots-divide n size (drop (lexed (c ∷ cs)).len (c ∷ cs)) (omega arith)))
] refl

pub tokens-divide : TokensDivide
unfolding tokens_from
tokens-divide text = spots-divide (length text) (length text) text (omega arith)

pub ruleset division = (tokens-divide)
