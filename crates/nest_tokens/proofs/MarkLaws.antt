-- Marks: two that are spelled the same are the same, and so are two names with the same bytes.
use Rattle.std.proofs.Common.{◌≡◌, ℕ, List, true, Option, Some, None, refl, sym, ◌∙◌, ap, subst, rules}
use denote.Enum.Bare.{same_true, sameb}
use Rattle.std.proofs.lemmas.Bool.Decides.{same_from_decides, Decides-like}
use Rattle.std.specs.Str.{bytes_eq}
use Rattle.std.proofs.lemmas.Slice.Eq.{bytes_eq-Decides}
use Rattle.nest_tokens.specs.declared.token.Mark.{Mark}
use Rattle.nest_tokens.specs.declared.token.Mark.TheVariants as mark
use Rattle.nest_tokens.specs.contracts.token.Mark.{the_type}
use Rattle.nest_tokens.specs.declared.token.Name.{Name}
use Rattle.nest_tokens.specs.declared.token.Token.{Token}
use Rattle.nest_tokens.specs.declared.token.Token.TheVariants as token
use Rattle.nest_tokens.specs.Tokens.{spelling, keyword_of, sign_at, is_mark}

abbrev or_else : Option Mark → Option Mark → Option Mark
or_else (Some m) other = Some m
or_else None other = other

-- the mark that is spelled so
mark_of : List ℕ → Option Mark
mark_of text = or_else (keyword_of text) (sign_at text)

mark_of-spelling : (m : Mark) → mark_of (spelling m) ≡ Some m
unfolding mark_of spelling keyword_of sign_at
mark_of-spelling mark.OpenBrace = refl
mark_of-spelling mark.CloseBrace = refl
mark_of-spelling mark.Open = refl
mark_of-spelling mark.Close = refl
mark_of-spelling mark.OpenBracket = refl
mark_of-spelling mark.CloseBracket = refl
mark_of-spelling mark.Assign = refl
mark_of-spelling mark.Equal = refl
mark_of-spelling mark.NotEqual = refl
mark_of-spelling mark.Less = refl
mark_of-spelling mark.AtMost = refl
mark_of-spelling mark.Greater = refl
mark_of-spelling mark.AtLeast = refl
mark_of-spelling mark.Plus = refl
mark_of-spelling mark.Minus = refl
mark_of-spelling mark.Times = refl
mark_of-spelling mark.Divide = refl
mark_of-spelling mark.Remainder = refl
mark_of-spelling mark.Colon = refl
mark_of-spelling mark.Comma = refl
mark_of-spelling mark.Semicolon = refl
mark_of-spelling mark.Nest = refl
mark_of-spelling mark.Scalar = refl
mark_of-spelling mark.Memory = refl
mark_of-spelling mark.Data = refl
mark_of-spelling mark.Ramp = refl
mark_of-spelling mark.Candidate = refl
mark_of-spelling mark.For = refl
mark_of-spelling mark.Below = refl
mark_of-spelling mark.Step = refl
mark_of-spelling mark.While = refl
mark_of-spelling mark.Let = refl
mark_of-spelling mark.If = refl
mark_of-spelling mark.Else = refl

pub same-mark : (m k : Mark) → spelling m ≡ spelling k → m ≡ k
same-mark m k e = let h : Some m ≡ Some k = sym (mark_of-spelling m) ∙ ap mark_of e ∙ mark_of-spelling k in cc

-- the derived comparison
same-self : (m : Mark) → sameb the_type m m ≡ true
same-self mark.OpenBrace = refl
same-self mark.CloseBrace = refl
same-self mark.Open = refl
same-self mark.Close = refl
same-self mark.OpenBracket = refl
same-self mark.CloseBracket = refl
same-self mark.Assign = refl
same-self mark.Equal = refl
same-self mark.NotEqual = refl
same-self mark.Less = refl
same-self mark.AtMost = refl
same-self mark.Greater = refl
same-self mark.AtLeast = refl
same-self mark.Plus = refl
same-self mark.Minus = refl
same-self mark.Times = refl
same-self mark.Divide = refl
same-self mark.Remainder = refl
same-self mark.Colon = refl
same-self mark.Comma = refl
same-self mark.Semicolon = refl
same-self mark.Nest = refl
same-self mark.Scalar = refl
same-self mark.Memory = refl
same-self mark.Data = refl
same-self mark.Ramp = refl
same-self mark.Candidate = refl
same-self mark.For = refl
same-self mark.Below = refl
same-self mark.Step = refl
same-self mark.While = refl
same-self mark.Let = refl
same-self mark.If = refl
same-self mark.Else = refl

pub is-same : (m k : Mark) → sameb the_type m k ≡ bytes_eq (spelling m) (spelling k)
is-same m k = same_from_decides {P = m ≡ k} (sameb the_type m k) (bytes_eq (spelling m) (spelling k))
    (same_true the_type (search rules) m k, λ (e : m ≡ k). subst (λ (x : Mark). sameb the_type m x ≡ true) e (same-self m))
    (Decides-like (bytes_eq (spelling m) (spelling k)) (same-mark m k) (λ (e : m ≡ k). ap spelling e) (bytes_eq-Decides (spelling m) (spelling k)))

-- a mark is itself, and no other token is
pub is_mark-self : (m : Mark) → is_mark m (token.Plain m) ≡ true
unfolding is_mark
is_mark-self m = (bytes_eq-Decides (spelling m) (spelling m)).1 refl

pub is_mark-true : (m : Mark) (t : Token) → is_mark m t ≡ true → t ≡ token.Plain m
unfolding is_mark
is_mark-true m (token.Plain k) h = ap token.Plain (sym (same-mark m k ((bytes_eq-Decides (spelling m) (spelling k)).0 h)))
is_mark-true m _ h = absurd (cc)

-- two names are equal where their bytes are
pub same-name : (a b : Name) → bytes_eq a.bytes b.bytes ≡ true → a ≡ b
same-name a b h = ap (λ (x : List ℕ). record { bytes = x }) ((bytes_eq-Decides a.bytes b.bytes).0 h)
