-- Digits and numbers, and the tests of them.
use Rattle.std.proofs.Common.{◌≡◌, ◌&&◌, ◌<◌, tests, refl, ap₂, arith, true, false, Bool, ℕ, ℤ, pos, List, [], ◌∷◌, length, nat_lt, nat_le}
use Rattle.std.specs.List.{list_all}
use Rattle.std.specs.Char.{digit_value, is_ascii_digit}
use Rattle.std.specs.Str.Parse.{AllDigits, digits_value}
use Rattle.std.proofs.lemmas.Bool.{leb-true, le-leb, lt-ltb, ltb-true, and_parts}
use Rattle.std.proofs.lemmas.Str.Parse.{digit_from_value}
use Rattle.clap.specs.Words.{Text}
use Rattle.command_line.specs.Numbers.{IsNumberIn}

digit : (c : ℕ) → is_ascii_digit c ≡ true → digit_value c < 10
digit c e = grind (arith, tests)

is_digit : (c : ℕ) → digit_value c < 10 → is_ascii_digit c ≡ true
is_digit c lt =
    let range = digit_from_value c lt in
    grind (arith, tests)

pub AllDigits-from-list_all : (text : List ℕ) → list_all is_ascii_digit text ≡ true → AllDigits 10 text
AllDigits-from-list_all [] e = tt
AllDigits-from-list_all (x ∷ xs) e =
    let parts = and_parts (is_ascii_digit x) (list_all is_ascii_digit xs) e in
    (digit x parts.0, AllDigits-from-list_all xs parts.1)

pub list_all-from-AllDigits : (text : List ℕ) → AllDigits 10 text → list_all is_ascii_digit text ≡ true
list_all-from-AllDigits [] h = refl
list_all-from-AllDigits (x ∷ xs) h = ap₂ (λ p q. p && q) (is_digit x h.0) (list_all-from-AllDigits xs h.1)

-- whether the text is a number in the range
abbrev pub is_number_in : ℕ → ℕ → Text → Bool
is_number_in least most text = (nat_lt 0 (length text) && list_all is_ascii_digit text)
    && (nat_le (length text) 10 && (nat_le least (digits_value 10 text) && nat_le (digits_value 10 text) most))

pub IsNumberIn-from-test : (least most : ℕ) (text : Text) → is_number_in least most text ≡ true → IsNumberIn least most text (pos (digits_value 10 text))
IsNumberIn-from-test least most text e =
    let a = and_parts (nat_lt 0 (length text) && list_all is_ascii_digit text) _ e in
    let b = and_parts (nat_lt 0 (length text)) _ a.0 in
    let c = and_parts (nat_le (length text) 10) _ a.1 in
    let d = and_parts (nat_le least (digits_value 10 text)) _ c.1 in
    record {
      numeral = (ltb-true 0 (length text) b.0, AllDigits-from-list_all text b.1);
      short = leb-true (length text) 10 c.0;
      value = refl;
      from = leb-true least (digits_value 10 text) d.0;
      upto = leb-true (digits_value 10 text) most d.1;
    }

pub test-from-IsNumberIn : (least most : ℕ) (text : Text) (number : ℤ) → IsNumberIn least most text number → is_number_in least most text ≡ true
test-from-IsNumberIn least most text number h =
    ap₂ (λ p q. p && q) (ap₂ (λ p q. p && q) (lt-ltb 0 (length text) h.numeral.0) (list_all-from-AllDigits text h.numeral.1))
    (ap₂ (λ p q. p && q) (le-leb (length text) 10 h.short) (ap₂ (λ p q. p && q) (le-leb least (digits_value 10 text) h.from) (le-leb (digits_value 10 text) most h.upto)))
