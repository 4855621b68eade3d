-- Readings: a reading takes a thing from what is left, or stops at the first token that is wrong.
use Rattle.std.specs.Prelude.{ℕ, zero, suc, ℤ, pos, negsuc, length, Option, Some, None, Result, Ok, Err, Bool, true, false, if◌then◌else◌, nat_lt}
use Rattle.nest_tokens.specs.declared.token.Token.{Token}
use Rattle.nest_tokens.specs.declared.token.Token.TheVariants as token
use Rattle.nest_tokens.specs.declared.token.BadToken.TheVariants as bad
use Rattle.nest_tokens.specs.declared.token.Mark.{Mark}
use Rattle.nest_tokens.specs.declared.token.Mark.TheVariants as mark
use Rattle.nest_tokens.specs.Tokens.{is_mark}
use Rattle.nest_grammar.specs.declared.fault.TextFault.{TextFault}
use Rattle.nest_grammar.specs.declared.fault.TextKind.{TextKind}
use Rattle.nest_grammar.specs.declared.fault.TextKind.TheVariants as kind
use Rattle.nest_grammar.specs.Sights.{Sight, here, stands, skip}

-- a thing and what is left then, or the first fault
abbrev pub Reading : Type 0 → Type 0
Reading A = Sight → Result (A × Sight) TextFault

abbrev pub after : {A B : Type 0} → Result (A × Sight) TextFault → (A → Reading B) → Result (B × Sight) TextFault
after (Ok x) go = go x.0 x.1
after (Err f) go = Err f

-- one reading behind another
infixl 10 ◌>>=◌
abbrev pub ◌>>=◌ : {A B : Type 0} → Reading A → (A → Reading B) → Reading B
r >>= go = λ s. after (r s) go

abbrev pub gives : {A : Type 0} → A → Reading A
gives a s = Ok (a, s)

-- the token here is wrong, in this way
unfoldable pub refused : {A : Type 0} → TextKind → Reading A
refused what s = Err (record { at = (here s).at; what = what })

-- What is wrong with a token that is not allowed: that it is no token at all comes before everything.
abbrev pub unexpected : Token → TextKind
unexpected (token.Bad bad.Byte) = kind.Byte
unexpected (token.Bad bad.Number) = kind.Number
unexpected (token.Bad bad.Name) = kind.Name
unexpected _ = kind.Expected

-- a token that the grammar does not allow here
abbrev pub wrong : {A : Type 0} → Reading A
wrong s = refused (unexpected (stands s)) s

abbrev pub skipped : Reading (Unit {0})
skipped s = Ok (tt, skip s)

-- this sign or word
unfoldable pub need : Mark → Reading (Unit {0})
need m s = if is_mark m (stands s) then Ok (tt, skip s) else wrong s

-- a rule of the token here, which is refused in this way where it is broken
unfoldable pub obeys : Bool → TextKind → Reading (Unit {0})
obeys rule what s = if rule then Ok (tt, s) else refused what s

-- so many are there already, and one more is not past the limit
abbrev pub fewer : ℕ → ℕ → Reading (Unit {0})
fewer used most = obeys (nat_lt used most) kind.Many

abbrev pub number_at : (ℕ → Bool) → TextKind → Token → Reading ℕ
number_at rule what (token.Number n) = obeys (rule n) what >>= λ _. skipped >>= λ _. gives n
number_at rule what _ = wrong

-- a number that keeps a rule
unfoldable pub number_where : (ℕ → Bool) → TextKind → Reading ℕ
number_where rule what s = number_at rule what (stands s) s

-- a number
abbrev pub number : Reading ℕ
number = number_where (λ n. true) kind.Range

abbrev pub with_sign : Bool → ℕ → ℤ
with_sign true zero = pos zero
with_sign true (suc n) = negsuc n
with_sign false n = pos n

-- [ "-" ]: whether it stands here
unfoldable pub minus : Reading Bool
minus s = if is_mark mark.Minus (stands s) then Ok (true, skip s) else Ok (false, s)

-- [ "-" ] number, a value that keeps a rule, which is judged at the number
unfoldable pub signed_where : (ℤ → Bool) → TextKind → Reading ℤ
signed_where rule what = minus >>= λ negative. number_where (λ n. rule (with_sign negative n)) what >>= λ n. gives (with_sign negative n)

-- [ "-" ] number
abbrev pub signed : Reading ℤ
signed = signed_where (λ v. true) kind.Range

-- whether another part begins with a token
abbrev pub at_mark : Mark → Token → Option (Unit {0})
at_mark m t = if is_mark m t then Some tt else None

abbrev pub more_at : {A B : Type 0} → (B → A → Reading A) → (A → Reading A) → A → Option B → Reading A
more_at part again a None = gives a
more_at part again a (Some b) = part b a >>= again

unfoldable pub more : {A B : Type 0} → ℕ → (Token → Option B) → (B → A → Reading A) → A → Reading A
more zero begins part a s = Ok (a, s)
more (suc n) begins part a s = more_at part (more n begins part) a (begins (stands s)) s

-- Part after part, as long as one begins with the token that stands there. Each takes a token at
-- least, so that no more parts are read than there are tokens.
unfoldable pub many : {A B : Type 0} → (Token → Option B) → (B → A → Reading A) → A → Reading A
many begins part a s = more (length s.left) begins part a s

-- the same part, whatever it begins with
abbrev pub always : {A B : Type 0} → (A → Reading A) → B → A → Reading A
always part b = part

-- part after part, as long as this sign or word stands here
abbrev pub many_at : {A : Type 0} → Mark → (A → Reading A) → A → Reading A
many_at m part = many (at_mark m) (always part)

-- The end of the text.
abbrev pub end_at : Token → Reading (Unit {0})
end_at token.End = gives tt
end_at _ = wrong

unfoldable pub end : Reading (Unit {0})
end s = end_at (stands s) s
