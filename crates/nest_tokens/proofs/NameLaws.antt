-- Names, words and signs in front of a text.
use Rattle.std.proofs.Common.{◌≡◌, ℕ, ◌≤◌, List, [], ◌∷◌, ◌++◌, length, take, drop, replicate, Bool, true, false, cond, nat_lt, nat_eq, refl, sym, ◌∙◌, ap, arith, length-take, Option, Some, None}
use Rattle.std.specs.List.{find, starts_with}
use Rattle.std.specs.Cmp.Lexicographic.{same_text}
use Rattle.std.proofs.lemmas.List.{drop-replicate}
use Rattle.std.proofs.lemmas.Bool.Decides.{nat_tests}
use Rattle.nest_tokens.specs.declared.token.Mark.{Mark}
use Rattle.nest_tokens.specs.declared.token.Token.TheVariants as token
use Rattle.nest_tokens.specs.Tokens.{spelling, keyword_of, sign_at, signs}
use Rattle.nest_tokens.specs.Lexing.{named}

pub named-name : (s new : List ℕ) {word : Option Mark} → length s ≤ 32 → word ≡ keyword_of s → word ≡ None → new ≡ s → token.Name (record { bytes = new ++ drop (length s) (replicate 32 0) }) ≡ named s
unfolding named
named-name s new {word} h w e n =
    let t : nat_lt 32 (length s) ≡ false = grind (arith, nat_tests) in
    let o : keyword_of s ≡ None = sym w ∙ e in
    rw (n, t, o, drop-replicate {X = ℕ} (length s) 32 0)

found : {A : Type 0} (test : A → Bool) (xs : List A) (x : A) → find test xs ≡ Some x → test x ≡ true
found test [] x h = absurd (cc)
found test (y ∷ ys) x h = elim (test y) as (λ b. test y ≡ b → cond b (Some y) (find test ys) ≡ Some x → test x ≡ true)
    [ true ↦ λ e k. (let q : y ≡ x = cc in ap test (sym q) ∙ e) | false ↦ λ e k. found test ys x k ] refl h

pub sign-begins : (text : List ℕ) (m : Mark) → sign_at text ≡ Some m → spelling m ≡ take (length (spelling m)) text
unfolding sign_at
sign-begins text m h =
    let t : starts_with nat_eq text (spelling m) ≡ true = found (λ k. starts_with nat_eq text (spelling k)) signs m h in
    same_text (spelling m) (take (length (spelling m)) text) (sym t)

pub sign-within : (text : List ℕ) (m : Mark) → sign_at text ≡ Some m → length (spelling m) ≤ length text
sign-within text m h =
    let l : length (spelling m) ≡ length (take (length (spelling m)) text) = ap (λ (x : List ℕ). length x) (sign-begins text m h) in
    omega (arith, length-take {A = ℕ})

pub ruleset within = (sign-within)
