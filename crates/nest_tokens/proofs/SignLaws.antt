-- The sign that is found is the longest that stands there.
use Rattle.std.proofs.Common.{◌≡◌, ℕ, ◌≤◌, List, [], ◌∷◌, ◌++◌, length, take, Bool, true, false, cond, nat_le, nat_eq, refl, sym, arith, subst, Option, Some, None, inl, inr, ◌⊎◌}
use Rattle.std.specs.Prelude.{◌&&◌}
use Rattle.std.specs.List.{find, starts_with}
use Rattle.std.proofs.lemmas.Slice.Eq.{bytes_eq-Decides}
use Rattle.std.proofs.lemmas.Bool.{leb-true, and_parts}
use Rattle.nest_tokens.specs.declared.token.Mark.{Mark}
use Rattle.nest_tokens.specs.Tokens.{spelling, sign_at, signs}
use Rattle.nest_tokens.specs.Division.{IsOneOf, IsSign, StandsAt}
use Rattle.nest_tokens.proofs.SpelledLaws.{take-front}

-- how long a sign is that was found
abbrev pub found_len : Option Mark → ℕ
found_len None = 0
found_len (Some m) = length (spelling m)

-- none of these is longer
abbrev none-longer : ℕ → List Mark → Bool
none-longer n [] = true
none-longer n (x ∷ xs) = nat_le (length (spelling x)) n && none-longer n xs

-- none is longer than one before it
abbrev falls : List Mark → Bool
falls [] = true
falls (x ∷ xs) = none-longer (length (spelling x)) xs && falls xs

no-longer : (n : ℕ) (xs : List Mark) (k : Mark) → none-longer n xs ≡ true → IsOneOf xs k → length (spelling k) ≤ n
no-longer n [] k h i = absurd i
no-longer n (x ∷ xs) k h (inl e) = rw e (leb-true (length (spelling x)) n ((and_parts (nat_le (length (spelling x)) n) (none-longer n xs) h).0))
no-longer n (x ∷ xs) k h (inr i) = no-longer n xs k ((and_parts (nat_le (length (spelling x)) n) (none-longer n xs) h).1) i

found-longest : (test : Mark → Bool) (xs : List Mark) (k : Mark) → falls xs ≡ true → IsOneOf xs k → test k ≡ true → length (spelling k) ≤ found_len (find test xs)
found-longest test [] k h i t = absurd i
found-longest test (x ∷ xs) k h (inl e) t = let s : test x ≡ true = subst (λ (m : Mark). test m ≡ true) e t in rw (s, e) (omega arith)
found-longest test (x ∷ xs) k h (inr i) t = elim (test x) as (λ b. length (spelling k) ≤ found_len (cond b (Some x) (find test xs))) [
  | true ↦ no-longer (length (spelling x)) xs k ((and_parts (none-longer (length (spelling x)) xs) (falls xs) h).0) i
  | false ↦ found-longest test xs k ((and_parts (none-longer (length (spelling x)) xs) (falls xs) h).1) i t
]

found-among : (test : Mark → Bool) (xs : List Mark) (m : Mark) → find test xs ≡ Some m → IsOneOf xs m
found-among test [] m h = absurd (cc)
found-among test (x ∷ xs) m h = elim (test x) as (λ b. cond b (Some x) (find test xs) ≡ Some m → (m ≡ x) ⊎ IsOneOf xs m) [
  | true ↦ λ k. inl (let q : m ≡ x = cc in q)
  | false ↦ λ k. inr (found-among test xs m k)
] h

signs-fall : falls signs ≡ true
unfolding spelling
signs-fall = refl

stands-tests : (text s rest : List ℕ) → text ≡ s ++ rest → starts_with nat_eq text s ≡ true
stands-tests text s rest e = let q : s ≡ take (length s) text = rw e (sym (take-front s rest)) in (bytes_eq-Decides s (take (length s) text)).1 q

pub sign_at-sign : (text : List ℕ) (m : Mark) → sign_at text ≡ Some m → IsSign m
unfolding sign_at
sign_at-sign text m h = found-among (λ k. starts_with nat_eq text (spelling k)) signs m h

pub sign_at-longest : (text : List ℕ) (k : Mark) → IsSign k → StandsAt text k → length (spelling k) ≤ found_len (sign_at text)
unfolding sign_at
sign_at-longest text k i st = found-longest (λ m. starts_with nat_eq text (spelling m)) signs k signs-fall i (stands-tests text (spelling k) st.0 st.1)
