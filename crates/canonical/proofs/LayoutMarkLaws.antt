-- Lexing a sign or a keyword from its spelling.
use Rattle.std.proofs.Common.{◌≡◌, ℕ, List, [], ◌∷◌, ◌++◌, length, refl, sym, ◌∙◌, ap, subst, Some, Bool, true, false, ◌==◌, nat_eq}
use Rattle.std.proofs.lemmas.Bool.{eqb-true}
use Rattle.nest_tokens.specs.declared.token.Mark.{Mark}
use Rattle.nest_tokens.specs.declared.token.Mark.TheVariants as mark
use Rattle.nest_tokens.specs.declared.token.Token.{Token}
use Rattle.nest_tokens.specs.declared.token.Token.TheVariants as token
use Rattle.nest_tokens.specs.Tokens.{spelling, keyword_of, sign_at}
use Rattle.nest_tokens.specs.Lexing.{is_letter, is_digit, is_name_byte, named, sign_or_byte, lexed}
use Rattle.nest_tokens.specs.Division.{Begins, Stops, AllPass}
use Rattle.nest_tokens.proofs.SpelledLaws.{lexed-other, lexed-run}

-- a keyword, and no sign
unfoldable pub is_word : Mark → Bool
is_word mark.Nest = true
is_word mark.Scalar = true
is_word mark.Memory = true
is_word mark.Data = true
is_word mark.Ramp = true
is_word mark.Candidate = true
is_word mark.For = true
is_word mark.Below = true
is_word mark.Step = true
is_word mark.While = true
is_word mark.Let = true
is_word mark.If = true
is_word mark.Else = true
is_word mark.OpenBrace = false
is_word mark.CloseBrace = false
is_word mark.Open = false
is_word mark.Close = false
is_word mark.OpenBracket = false
is_word mark.CloseBracket = false
is_word mark.Plus = false
is_word mark.Minus = false
is_word mark.Times = false
is_word mark.Divide = false
is_word mark.Remainder = false
is_word mark.Colon = false
is_word mark.Comma = false
is_word mark.Semicolon = false
is_word mark.Equal = false
is_word mark.NotEqual = false
is_word mark.AtMost = false
is_word mark.AtLeast = false
is_word mark.Assign = false
is_word mark.Less = false
is_word mark.Greater = false

word-named : (m : Mark) → is_word m ≡ true → named (spelling m) ≡ token.Plain m
unfolding is_word named spelling keyword_of
word-named mark.Nest h = refl
word-named mark.Scalar h = refl
word-named mark.Memory h = refl
word-named mark.Data h = refl
word-named mark.Ramp h = refl
word-named mark.Candidate h = refl
word-named mark.For h = refl
word-named mark.Below h = refl
word-named mark.Step h = refl
word-named mark.While h = refl
word-named mark.Let h = refl
word-named mark.If h = refl
word-named mark.Else h = refl
word-named _ h = absurd (cc)

pub word-begins : (m : Mark) → is_word m ≡ true → Begins is_letter (spelling m)
unfolding is_word spelling
word-begins mark.Nest h = refl
word-begins mark.Scalar h = refl
word-begins mark.Memory h = refl
word-begins mark.Data h = refl
word-begins mark.Ramp h = refl
word-begins mark.Candidate h = refl
word-begins mark.For h = refl
word-begins mark.Below h = refl
word-begins mark.Step h = refl
word-begins mark.While h = refl
word-begins mark.Let h = refl
word-begins mark.If h = refl
word-begins mark.Else h = refl
word-begins _ h = absurd (cc)

word-passes : (m : Mark) → is_word m ≡ true → AllPass is_name_byte (spelling m)
unfolding is_word spelling
word-passes mark.Nest h = (refl, (refl, (refl, (refl, tt))))
word-passes mark.Scalar h = (refl, (refl, (refl, (refl, (refl, (refl, tt))))))
word-passes mark.Memory h = (refl, (refl, (refl, (refl, (refl, (refl, tt))))))
word-passes mark.Data h = (refl, (refl, (refl, (refl, tt))))
word-passes mark.Ramp h = (refl, (refl, (refl, (refl, tt))))
word-passes mark.Candidate h = (refl, (refl, (refl, (refl, (refl, (refl, (refl, (refl, (refl, tt)))))))))
word-passes mark.For h = (refl, (refl, (refl, tt)))
word-passes mark.Below h = (refl, (refl, (refl, (refl, (refl, tt)))))
word-passes mark.Step h = (refl, (refl, (refl, (refl, tt))))
word-passes mark.While h = (refl, (refl, (refl, (refl, (refl, tt)))))
word-passes mark.Let h = (refl, (refl, (refl, tt)))
word-passes mark.If h = (refl, (refl, tt))
word-passes mark.Else h = (refl, (refl, (refl, (refl, tt))))
word-passes _ h = absurd (cc)

pub lexed-word : (m : Mark) (bs : List ℕ) → is_word m ≡ true → Stops is_name_byte bs → lexed (spelling m ++ bs) ≡ record { token = token.Plain m; len = length (spelling m) }
lexed-word m bs h k = lexed-run (spelling m) bs (word-begins m h) (word-passes m h) k ∙ ap (λ (t : Token). record { token = t; len = length (spelling m) }) (word-named m h)

-- no sign `=`
abbrev pub is_equals : ℕ → Bool
is_equals b = b == 61

flipped : (b : ℕ) → (b == 61) ≡ false → nat_eq 61 b ≡ false
flipped b h = elim (nat_eq 61 b) as (λ t. nat_eq 61 b ≡ t → t ≡ false) [ true ↦ λ e. absurd (let k : 61 ≡ b = eqb-true 61 b e in let j : (61 == 61) ≡ false = subst (λ (c : ℕ). (c == 61) ≡ false) (sym k) h in cc) | false ↦ λ e. refl ] refl

sign-here : (m : Mark) (bs : List ℕ) → is_word m ≡ false → Stops is_equals bs → sign_at (spelling m ++ bs) ≡ Some m
unfolding is_word spelling sign_at
sign-here mark.OpenBrace bs h k = refl
sign-here mark.CloseBrace bs h k = refl
sign-here mark.Open bs h k = refl
sign-here mark.Close bs h k = refl
sign-here mark.OpenBracket bs h k = refl
sign-here mark.CloseBracket bs h k = refl
sign-here mark.Plus bs h k = refl
sign-here mark.Minus bs h k = refl
sign-here mark.Times bs h k = refl
sign-here mark.Divide bs h k = refl
sign-here mark.Remainder bs h k = refl
sign-here mark.Colon bs h k = refl
sign-here mark.Comma bs h k = refl
sign-here mark.Semicolon bs h k = refl
sign-here mark.Equal bs h k = refl
sign-here mark.NotEqual bs h k = refl
sign-here mark.AtMost bs h k = refl
sign-here mark.AtLeast bs h k = refl
sign-here mark.Assign [] h k = refl
sign-here mark.Assign (b ∷ bs) h k = let e = flipped b k in rw e refl
sign-here mark.Less [] h k = refl
sign-here mark.Less (b ∷ bs) h k = let e = flipped b k in rw e refl
sign-here mark.Greater [] h k = refl
sign-here mark.Greater (b ∷ bs) h k = let e = flipped b k in rw e refl
sign-here _ bs h k = absurd (cc)

-- the first byte of a sign is no name byte
pub sign-begins : (m : Mark) → is_word m ≡ false → (b : ℕ) × (cs : List ℕ) × (spelling m ≡ b ∷ cs) × (is_name_byte b ≡ false) × (is_letter b ≡ false) × (is_digit b ≡ false)
unfolding is_word spelling
sign-begins mark.OpenBrace h = (_, _, refl, refl, refl, refl)
sign-begins mark.CloseBrace h = (_, _, refl, refl, refl, refl)
sign-begins mark.Open h = (_, _, refl, refl, refl, refl)
sign-begins mark.Close h = (_, _, refl, refl, refl, refl)
sign-begins mark.OpenBracket h = (_, _, refl, refl, refl, refl)
sign-begins mark.CloseBracket h = (_, _, refl, refl, refl, refl)
sign-begins mark.Plus h = (_, _, refl, refl, refl, refl)
sign-begins mark.Minus h = (_, _, refl, refl, refl, refl)
sign-begins mark.Times h = (_, _, refl, refl, refl, refl)
sign-begins mark.Divide h = (_, _, refl, refl, refl, refl)
sign-begins mark.Remainder h = (_, _, refl, refl, refl, refl)
sign-begins mark.Colon h = (_, _, refl, refl, refl, refl)
sign-begins mark.Comma h = (_, _, refl, refl, refl, refl)
sign-begins mark.Semicolon h = (_, _, refl, refl, refl, refl)
sign-begins mark.Equal h = (_, _, refl, refl, refl, refl)
sign-begins mark.NotEqual h = (_, _, refl, refl, refl, refl)
sign-begins mark.AtMost h = (_, _, refl, refl, refl, refl)
sign-begins mark.AtLeast h = (_, _, refl, refl, refl, refl)
sign-begins mark.Assign h = (_, _, refl, refl, refl, refl)
sign-begins mark.Less h = (_, _, refl, refl, refl, refl)
sign-begins mark.Greater h = (_, _, refl, refl, refl, refl)
sign-begins _ h = absurd (cc)

pub lexed-sign : (m : Mark) (bs : List ℕ) → is_word m ≡ false → Stops is_equals bs → lexed (spelling m ++ bs) ≡ record { token = token.Plain m; len = length (spelling m) }
lexed-sign m bs h k =
    let b = sign-begins m h in
    ap (λ (l : List ℕ). lexed (l ++ bs)) b.2 ∙ lexed-other b.0 (b.1 ++ bs) b.4 b.5 ∙ ap (λ (l : List ℕ). sign_or_byte (sign_at (l ++ bs))) (sym b.2) ∙ ap sign_or_byte (sign-here m bs h k)
