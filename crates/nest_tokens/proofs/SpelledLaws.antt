-- Spellings and what they lex as: a run of letters and digits, a run of digits, and a name by its bytes before
-- the zeros.
use Rattle.std.proofs.Common.{◌≡◌, ℕ, zero, suc, ◌+◌, ◌-◌, List, [], ◌∷◌, ◌++◌, length, take, drop, replicate, refl, ap, ◌∙◌, arith, subst, Bool, true, false, ◌==◌}
use Rattle.std.specs.Prelude.{not}
use Rattle.std.specs.List.{prefix_len}
use Rattle.std.proofs.lemmas.Bool.{eqb-true}
use Rattle.nest_tokens.specs.Lexing.{is_letter, is_digit, is_name_byte, name_of, named, numbered, spelled_by, sign_or_byte, lexed}
use Rattle.nest_tokens.specs.Tokens.{sign_at}
use Rattle.nest_tokens.specs.Division.{Begins, Stops, AllPass}
use Rattle.nest_tokens.specs.Spellings.{is_written, name_text}

-- a run ends where the first byte stands that doesn't pass
pub run-len : (p : ℕ → Bool) (s bs : List ℕ) → AllPass p s → Stops p bs → prefix_len p (s ++ bs) ≡ length s
run-len p [] [] a h = refl
run-len p [] (b ∷ bs) a h = rw h refl
run-len p (c ∷ cs) bs a h = rw (a.0) (ap (λ (n : ℕ). 1 + n) (run-len p cs bs a.1 h) ∙ omega arith)

pub take-front : (s bs : List ℕ) → take (length s) (s ++ bs) ≡ s
take-front [] bs = refl
take-front (c ∷ cs) bs = ap (λ (l : List ℕ). c ∷ l) (take-front cs bs)

pub drop-front : (s bs : List ℕ) → drop (length s) (s ++ bs) ≡ bs
drop-front [] bs = refl
drop-front (c ∷ cs) bs = drop-front cs bs

lexed-letter : (c : ℕ) (l : List ℕ) → is_letter c ≡ true → lexed (c ∷ l) ≡ spelled_by (c ∷ l) (prefix_len is_name_byte (c ∷ l)) named
unfolding lexed
lexed-letter c l h = rw h refl

lexed-digit : (c : ℕ) (l : List ℕ) → is_letter c ≡ false → is_digit c ≡ true → lexed (c ∷ l) ≡ spelled_by (c ∷ l) (prefix_len is_digit (c ∷ l)) numbered
unfolding lexed
lexed-digit c l h k = rw (h, k) refl

pub lexed-other : (c : ℕ) (l : List ℕ) → is_letter c ≡ false → is_digit c ≡ false → lexed (c ∷ l) ≡ sign_or_byte (sign_at (c ∷ l))
unfolding lexed
lexed-other c l h k = rw (h, k) refl

-- a run of letters and digits that begins with a letter
pub lexed-run : (s bs : List ℕ) → Begins is_letter s → AllPass is_name_byte s → Stops is_name_byte bs → lexed (s ++ bs) ≡ record { token = named s; len = length s }
lexed-run [] bs b a h = absurd b
lexed-run (c ∷ cs) bs b a h =
    let n : prefix_len is_name_byte ((c ∷ cs) ++ bs) ≡ length (c ∷ cs) = run-len is_name_byte (c ∷ cs) bs a h in
    lexed-letter c (cs ++ bs) b ∙ (ap (λ (k : ℕ). spelled_by ((c ∷ cs) ++ bs) k named) n ∙ ap (λ (l : List ℕ). record { token = named l; len = length (c ∷ cs) }) (take-front (c ∷ cs) bs))

digit-no-letter : (b : ℕ) → is_digit b ≡ true → is_letter b ≡ false
digit-no-letter b h = grind arith

-- a run of digits
pub lexed-digits : (s bs : List ℕ) → Begins is_digit s → AllPass is_digit s → Stops is_digit bs → lexed (s ++ bs) ≡ record { token = numbered s; len = length s }
lexed-digits [] bs b a h = absurd b
lexed-digits (c ∷ cs) bs b a h =
    let n : prefix_len is_digit ((c ∷ cs) ++ bs) ≡ length (c ∷ cs) = run-len is_digit (c ∷ cs) bs a h in
    let l : is_letter c ≡ false = digit-no-letter c b in
    lexed-digit c (cs ++ bs) l b ∙ (ap (λ (k : ℕ). spelled_by ((c ∷ cs) ++ bs) k numbered) n ∙ ap (λ (l : List ℕ). record { token = numbered l; len = length (c ∷ cs) }) (take-front (c ∷ cs) bs))

written : (c : ℕ) → is_name_byte c ≡ true → is_written c ≡ true
written c h = elim (c == 0) as (λ t. (c == 0) ≡ t → not t ≡ true) [
  | true ↦ λ e. absurd (let z : c ≡ 0 = eqb-true c 0 e in let k : is_name_byte 0 ≡ true = subst (λ (b : ℕ). is_name_byte b ≡ true) z h in cc)
  | false ↦ λ e. refl
] refl

all-written : (s : List ℕ) → AllPass is_name_byte s → AllPass is_written s
all-written [] a = tt
all-written (c ∷ cs) a = (written c a.0, all-written cs a.1)

zeros-stop : (n : ℕ) → Stops is_written (replicate n 0)
zeros-stop zero = tt
zeros-stop (suc n) = refl

-- what a name is spelled by is its text
pub name_text-name_of : (s : List ℕ) → AllPass is_name_byte s → name_text (name_of s) ≡ s
unfolding name_text
name_text-name_of s a =
    let n : prefix_len is_written (s ++ replicate (32 - length s) 0) ≡ length s = run-len is_written s (replicate (32 - length s) 0) (all-written s a) (zeros-stop (32 - length s)) in
    rw n (take-front s (replicate (32 - length s) 0))
