-- Many: how part after part is read, step by step.
use Rattle.std.proofs.Common.{◌≡◌, ℕ, zero, suc, ◌<◌, ◌≤◌, [], ◌∷◌, length, refl, sym, ◌∙◌, arith, Option, Some, None, Result, Ok, Err}
use Rattle.nest_tokens.specs.declared.token.Token.{Token}
use Rattle.nest_tokens.specs.declared.token.Token.TheVariants as token
use Rattle.nest_grammar.specs.declared.fault.TextFault.{TextFault}
use Rattle.nest_tokens.specs.Ahead.{first}
use Rattle.nest_grammar.specs.Sights.{Sight, stands, here}
use Rattle.nest_grammar.specs.Readings.{Reading, after, more, many}

-- what is left is no longer than before
abbrev pub NoLonger : {A : Type 0} → Reading A → Type 0
NoLonger {A} r = (s : Sight) (x : A × Sight) → r s ≡ Ok x → length x.1.left ≤ length s.left

-- a token is taken at least, unless the text ends here
abbrev pub Takes : {A : Type 0} → Reading A → Type 0
Takes {A} r = (s : Sight) (x : A × Sight) → (stands s ≡ token.End → ⊥) → r s ≡ Ok x → length x.1.left < length s.left

-- no part begins with the end, and each takes a token
pub record Parts {A B : Type 0} (begins : Token → Option B) (part : B → A → Reading A) : Type 0 where
  pub none : begins token.End ≡ None
  pub takes : (b : B) (a : A) → Takes (part b a)

-- what was read, and what was read behind it
pub bind-ok : {A B : Type 0} (r : Result (A × Sight) TextFault) (go : A → Reading B) (y : B × Sight) → after r go ≡ Ok y → (x : A × Sight) × (r ≡ Ok x) × (go x.0 x.1 ≡ Ok y)
bind-ok (Ok x) go y h = (x, refl, h)
bind-ok (Err e) go y h = cc

pub after-same : {A B : Type 0} (r : Result (A × Sight) TextFault) (f g : A → Reading B) → ((x : A × Sight) → r ≡ Ok x → f x.0 x.1 ≡ g x.0 x.1) → after r f ≡ after r g
after-same (Ok x) f g h = h x refl
after-same (Err e) f g h = refl

pub not-end : {B : Type 0} (begins : Token → Option B) (s : Sight) (b : B) → begins token.End ≡ None → begins (stands s) ≡ Some b → stands s ≡ token.End → ⊥
not-end begins s b none e h = cc

pub end-here : {B : Type 0} (begins : Token → Option B) (s : Sight) → begins token.End ≡ None → length s.left ≤ 0 → begins (stands s) ≡ None
unfolding here
end-here begins s none h = elim s.left as (λ l. length l ≤ 0 → begins (first s.size l).token ≡ None) [ [] ↦ λ k. none | x ∷ xs ↦ λ k. absurd (omega arith) ] h

-- a part leaves less: the measure of every loop
pub many-shorter : {A B : Type 0} (begins : Token → Option B) (part : B → A → Reading A) (a c : A) (s t : Sight) (b : B) → Parts begins part → begins (stands s) ≡ Some b → part b a s ≡ Ok (c, t) → length t.left < length s.left
many-shorter begins part a c s t b p e h = p.takes b a s (c, t) (not-end begins s b p.none e) h

more-stop : {A B : Type 0} (n : ℕ) (begins : Token → Option B) (part : B → A → Reading A) (a : A) (s : Sight) → begins (stands s) ≡ None → more n begins part a s ≡ Ok (a, s)
unfolding more
more-stop zero begins part a s e = refl
more-stop (suc n) begins part a s e = rw e

more-step : {A B : Type 0} (n : ℕ) (begins : Token → Option B) (part : B → A → Reading A) (a : A) (s : Sight) (b : B) → begins (stands s) ≡ Some b → more (suc n) begins part a s ≡ after (part b a s) (more n begins part)
unfolding more
more-step n begins part a s b e = rw e

more-both : {A B : Type 0} (n m : ℕ) (begins : Token → Option B) (part : B → A → Reading A) → Parts begins part → ((a : A) (s : Sight) → length s.left ≤ n → length s.left ≤ m → more n begins part a s ≡ more m begins part a s) → (a : A) (s : Sight) → length s.left ≤ suc n → length s.left ≤ suc m → (o : Option B) → begins (stands s) ≡ o → more (suc n) begins part a s ≡ more (suc m) begins part a s
more-both n m begins part p again a s hn hm None e = more-stop (suc n) begins part a s e ∙ sym (more-stop (suc m) begins part a s e)
more-both n m begins part p again a s hn hm (Some b) e =
    more-step n begins part a s b e
    ∙ after-same (part b a s) (more n begins part) (more m begins part) (λ x k.
    let l : length x.1.left < length s.left = many-shorter begins part a x.0 s x.1 b p e k in
    again x.0 x.1 (omega arith) (omega arith))
    ∙ sym (more-step m begins part a s b e)

-- the number that bounds the parts doesn't matter
pub more-any : {A B : Type 0} (n m : ℕ) (begins : Token → Option B) (part : B → A → Reading A) → Parts begins part → (a : A) (s : Sight) → length s.left ≤ n → length s.left ≤ m → more n begins part a s ≡ more m begins part a s
more-any zero m begins part p a s hn hm = more-stop zero begins part a s (end-here begins s p.none hn) ∙ sym (more-stop m begins part a s (end-here begins s p.none hn))
more-any (suc n) zero begins part p a s hn hm = more-stop (suc n) begins part a s (end-here begins s p.none hm) ∙ sym (more-stop zero begins part a s (end-here begins s p.none hm))
more-any (suc n) (suc m) begins part p a s hn hm = more-both n m begins part p (more-any n m begins part p) a s hn hm (begins (stands s)) refl

-- no part begins here
pub many-stop : {A B : Type 0} (begins : Token → Option B) (part : B → A → Reading A) (a : A) (s : Sight) → begins (stands s) ≡ None → many begins part a s ≡ Ok (a, s)
unfolding many
many-stop begins part a s e = more-stop (length s.left) begins part a s e

-- a part begins here
pub many-next : {A B : Type 0} (begins : Token → Option B) (part : B → A → Reading A) (a : A) (s : Sight) (b : B) → Parts begins part → begins (stands s) ≡ Some b → many begins part a s ≡ after (part b a s) (many begins part)
unfolding many
many-next begins part a s b p e =
    more-any (length s.left) (suc (length s.left)) begins part p a s (omega arith) (omega arith)
    ∙ more-step (length s.left) begins part a s b e
    ∙ after-same (part b a s) (more (length s.left) begins part) (λ c t. more (length t.left) begins part c t) (λ x k.
    let l : length x.1.left < length s.left = many-shorter begins part a x.0 s x.1 b p e k in
    more-any (length s.left) (length x.1.left) begins part p x.0 x.1 (omega arith) (omega arith))

-- a part was read, and the others are still to be read
pub many-goes : {A B : Type 0} (begins : Token → Option B) (part : B → A → Reading A) (a c : A) (s t : Sight) (b : B) (whole : Result (A × Sight) TextFault) → Parts begins part → begins (stands s) ≡ Some b → part b a s ≡ Ok (c, t) → many begins part a s ≡ whole → many begins part c t ≡ whole
many-goes begins part a c s t b whole p e h w = sym (many-next begins part a s b p e ∙ (rw h refl)) ∙ w

-- a part has a fault
pub many-fails : {A B : Type 0} (begins : Token → Option B) (part : B → A → Reading A) (a : A) (s : Sight) (b : B) (f : TextFault) (whole : Result (A × Sight) TextFault) → Parts begins part → begins (stands s) ≡ Some b → part b a s ≡ Err f → many begins part a s ≡ whole → whole ≡ Err f
many-fails begins part a s b f whole p e h w = sym w ∙ many-next begins part a s b p e ∙ (rw h refl)
