-- Lists of stores, the newest first.
use Rattle.std.proofs.Common.{◌≡◌, ◌≢◌, ℕ, ◌<◌, Bool, cond, List, [], ◌∷◌, ◌++◌, length, Option, Some, None, get_or, set, ◌⊎◌, inl, inr, refl, sym, ap, ◌∙◌, subst, eq-eqb, ne_eqb, arith, length-set, get_or-set_same, get_or-set_other}
use Rattle.std.specs.Prelude.{unwrap_or}
use mathlib.Core.Logic.{dite}
use native.Mathlib.Decide.{ℕ_discrete}
use Rattle.core_steps.specs.Views.{stored_at, overlaid}

pub no-option : (x : ℕ) (o : Option ℕ) → o ≡ None → o ≡ Some x → ⊥
no-option x o p q = cc

pub stored-same : (a : ℕ) (s : ℕ × ℕ) (ss : List (ℕ × ℕ)) → s.0 ≡ a → stored_at a (s ∷ ss) ≡ Some s.1
stored-same a s ss e = ap (λ (b : Bool). cond b (Some s.1) (stored_at a ss)) (eq-eqb s.0 a e)

pub stored-other : (a : ℕ) (s : ℕ × ℕ) (ss : List (ℕ × ℕ)) → s.0 ≢ a → stored_at a (s ∷ ss) ≡ stored_at a ss
stored-other a s ss ne = ap (λ (b : Bool). cond b (Some s.1) (stored_at a ss)) (ne_eqb s.0 a ne)

-- what is stored by a list and then by another
pub stored-append : (a : ℕ) (ss ts : List (ℕ × ℕ)) (x : ℕ) → stored_at a (ss ++ ts) ≡ Some x → (stored_at a ss ≡ Some x) ⊎ (stored_at a ts ≡ Some x)
stored-append a [] ts x h = inr h
stored-append a (s ∷ ss) ts x h = dite (ℕ_discrete s.0 a)
    (λ e. inl (stored-same a s ss e ∙ sym (stored-same a s (ss ++ ts) e) ∙ h))
    (λ n. subst (λ (o : Option ℕ). (o ≡ Some x) ⊎ (stored_at a ts ≡ Some x)) (sym (stored-other a s ss n)) (stored-append a ss ts x (sym (stored-other a s (ss ++ ts) n) ∙ h)))

pub unstored-append : (a : ℕ) (ss ts : List (ℕ × ℕ)) → stored_at a (ss ++ ts) ≡ None → (stored_at a ss ≡ None) × (stored_at a ts ≡ None)
unstored-append a [] ts h = (refl, h)
unstored-append a (s ∷ ss) ts h = dite (ℕ_discrete s.0 a)
    (λ e. absurd (no-option s.1 (stored_at a ((s ∷ ss) ++ ts)) h (stored-same a s (ss ++ ts) e)))
    (λ n. let r = unstored-append a ss ts (sym (stored-other a s (ss ++ ts) n) ∙ h) in (stored-other a s ss n ∙ r.0, r.1))

pub length-overlaid : (ss : List (ℕ × ℕ)) (base : List ℕ) → length (overlaid ss base) ≡ length base
length-overlaid [] base = refl
length-overlaid (s ∷ ss) base = length-set (overlaid ss base) s.0 s.1 ∙ length-overlaid ss base

-- the base after the stores has the last value stored, or else what it had
pub overlaid-at : (a : ℕ) (ss : List (ℕ × ℕ)) (base : List ℕ) → a < length base → get_or (overlaid ss base) a 0 ≡ unwrap_or (stored_at a ss) (get_or base a 0)
overlaid-at a [] base lt = refl
overlaid-at a (s ∷ ss) base lt = let len = length-overlaid ss base in dite (ℕ_discrete s.0 a)
    (λ e. let here : get_or (set (overlaid ss base) s.0 s.1) s.0 0 ≡ s.1 = get_or-set_same (overlaid ss base) s.0 s.1 0 (omega arith) in
    subst (λ (o : Option ℕ). get_or (set (overlaid ss base) s.0 s.1) a 0 ≡ unwrap_or o (get_or base a 0)) (sym (stored-same a s ss e)) (subst (λ (j : ℕ). get_or (set (overlaid ss base) s.0 s.1) j 0 ≡ s.1) e here))
    (λ n. subst (λ (o : Option ℕ). get_or (set (overlaid ss base) s.0 s.1) a 0 ≡ unwrap_or o (get_or base a 0)) (sym (stored-other a s ss n))
    (get_or-set_other (overlaid ss base) s.0 a s.1 0 (λ e. n (sym e)) ∙ overlaid-at a ss base lt))
