-- Lists of numbers that stand for sets.
use Rattle.std.proofs.Common.{◌≡◌, ◌≢◌, ℕ, Bool, true, false, true≢false, not, eqb, cond, List, [], ◌∷◌, ◌++◌, ◌⊎◌, inl, inr, ⊎_elim, refl, sym, ap, ◌∙◌, subst, eq-eqb, ne_eqb}
use Rattle.std.proofs.lemmas.Bool.{false_from_ne_true, or_cases, or_left, or_right}
use mathlib.Core.Logic.{dite}
use native.Mathlib.Decide.{ℕ_discrete}
use Rattle.core_steps.specs.Numbers.{has, without, IsSingle}

-- a test that is true isn't false
pub not_both : (b : Bool) → b ≡ true → b ≡ false → ⊥
not_both b t f = true≢false (sym t ∙ f)

pub has-here : (x : ℕ) (ys : List ℕ) → has x (x ∷ ys) ≡ true
has-here x ys = or_left (eqb x x) (has x ys) (eq-eqb x x refl)

pub has-there : (x y : ℕ) (ys : List ℕ) → has x ys ≡ true → has x (y ∷ ys) ≡ true
has-there x y ys h = or_right (eqb y x) (has x ys) h

pub has-cons : (x y : ℕ) (ys : List ℕ) → has x (y ∷ ys) ≡ true → (x ≡ y) ⊎ (has x ys ≡ true)
has-cons x y ys h = dite (ℕ_discrete x y) (λ e. inl e) (λ ne. ⊎_elim (λ same. absurd (not_both (eqb y x) same (ne_eqb y x (λ e. ne (sym e))))) (λ r. inr r) (or_cases (eqb y x) (has x ys) h))

pub has-none : (x : ℕ) (ys : List ℕ) → ys ≡ [] → ¬ (has x ys ≡ true)
has-none x ys e h = true≢false (sym h ∙ ap (λ (l : List ℕ). has x l) e)

pub has-append : (x : ℕ) (xs ys : List ℕ) → has x (xs ++ ys) ≡ true → (has x xs ≡ true) ⊎ (has x ys ≡ true)
has-append x [] ys h = inr h
has-append x (z ∷ xs) ys h = ⊎_elim (λ e. inl (or_left (eqb z x) (has x xs) (eq-eqb z x (sym e))))
    (λ r. ⊎_elim (λ t. inl (has-there x z xs t)) (λ t. inr t) (has-append x xs ys r)) (has-cons x z (xs ++ ys) h)

pub has-left : (x : ℕ) (xs ys : List ℕ) → has x xs ≡ true → has x (xs ++ ys) ≡ true
has-left x [] ys h = absurd (true≢false (sym h))
has-left x (z ∷ xs) ys h = ⊎_elim (λ e. or_left (eqb z x) (has x (xs ++ ys)) (eq-eqb z x (sym e))) (λ r. has-there x z (xs ++ ys) (has-left x xs ys r)) (has-cons x z xs h)

pub has-right : (x : ℕ) (xs ys : List ℕ) → has x ys ≡ true → has x (xs ++ ys) ≡ true
has-right x [] ys h = h
has-right x (z ∷ xs) ys h = has-there x z (xs ++ ys) (has-right x xs ys h)

pub has-snoc : (x k : ℕ) (ys : List ℕ) → has x (ys ++ k ∷ []) ≡ true → (x ≡ k) ⊎ (has x ys ≡ true)
has-snoc x k ys h = ⊎_elim (λ r. inr r) (λ r. ⊎_elim (λ e. inl e) (λ n. absurd (true≢false (sym n))) (has-cons x k [] r)) (has-append x ys (k ∷ []) h)

pub has-last : (k : ℕ) (ys : List ℕ) → has k (ys ++ k ∷ []) ≡ true
has-last k ys = has-right k ys (k ∷ []) (has-here k [])

without-same : (x y : ℕ) (ys : List ℕ) → y ≡ x → without x (y ∷ ys) ≡ without x ys
without-same x y ys e = ap (λ (b : Bool). cond (not b) (y ∷ without x ys) (without x ys)) (eq-eqb y x e)

without-other : (x y : ℕ) (ys : List ℕ) → y ≢ x → without x (y ∷ ys) ≡ y ∷ without x ys
without-other x y ys ne = ap (λ (b : Bool). cond (not b) (y ∷ without x ys) (without x ys)) (ne_eqb y x ne)

pub has-without : (x y : ℕ) (ys : List ℕ) → x ≢ y → has x ys ≡ true → has x (without y ys) ≡ true
has-without x y [] ne h = h
has-without x y (z ∷ ys) ne h = dite (ℕ_discrete z y)
    (λ e. subst (λ (l : List ℕ). has x l ≡ true) (sym (without-same y z ys e)) (⊎_elim (λ d. absurd (ne (d ∙ e))) (λ r. has-without x y ys ne r) (has-cons x z ys h)))
    (λ n. subst (λ (l : List ℕ). has x l ≡ true) (sym (without-other y z ys n)) (⊎_elim (λ d. or_left (eqb z x) (has x (without y ys)) (eq-eqb z x (sym d))) (λ r. has-there x z (without y ys) (has-without x y ys ne r)) (has-cons x z ys h)))

-- what is left was there, and isn't what was taken out
pub has-rest : (x y : ℕ) (ys : List ℕ) → has x (without y ys) ≡ true → (x ≢ y) × (has x ys ≡ true)
has-rest x y [] h = absurd (true≢false (sym h))
has-rest x y (z ∷ ys) h = dite (ℕ_discrete z y)
    (λ e. let r = has-rest x y ys (subst (λ (l : List ℕ). has x l ≡ true) (without-same y z ys e) h) in (r.0, has-there x z ys r.1))
    (λ n. ⊎_elim (λ d. ((λ s. n (sym d ∙ s)), or_left (eqb z x) (has x ys) (eq-eqb z x (sym d)))) (λ r. let q = has-rest x y ys r in (q.0, has-there x z ys q.1))
    (has-cons x z (without y ys) (subst (λ (l : List ℕ). has x l ≡ true) (without-other y z ys n) h)))

pub single-without : (y : ℕ) (ys : List ℕ) → IsSingle ys → IsSingle (without y ys)
single-without y [] h = tt
single-without y (z ∷ ys) h = dite (ℕ_discrete z y)
    (λ e. subst IsSingle (sym (without-same y z ys e)) (single-without y ys h.1))
    (λ n. subst IsSingle (sym (without-other y z ys n)) (false_from_ne_true (has z (without y ys)) (λ t. not_both (has z ys) (has-rest z y ys t).1 h.0), single-without y ys h.1))

pub single-append : (xs ys : List ℕ) → IsSingle xs → IsSingle ys → ((n : ℕ) → has n xs ≡ true → ¬ (has n ys ≡ true)) → IsSingle (xs ++ ys)
single-append [] ys p q apart = q
single-append (x ∷ xs) ys p q apart =
    (false_from_ne_true (has x (xs ++ ys)) (λ t. ⊎_elim (λ a. not_both (has x xs) a p.0) (λ b. apart x (has-here x xs) b) (has-append x xs ys t)), single-append xs ys p.1 q (λ n a b. apart n (has-there n x xs a) b))

pub single-snoc : (k : ℕ) (ks : List ℕ) → IsSingle ks → ¬ (has k ks ≡ true) → IsSingle (ks ++ k ∷ [])
single-snoc k ks one fresh = single-append ks (k ∷ []) one (refl, tt) (λ n a b. ⊎_elim (λ e. fresh (subst (λ (j : ℕ). has j ks ≡ true) e a)) (λ r. true≢false (sym r)) (has-cons n k [] b))

pub single-empty : (ks : List ℕ) → ks ≡ [] → IsSingle ks
single-empty ks e = subst IsSingle (sym e) tt
