-- Lists of views in which one view changes, a view joins at the end, or main's view takes one in.
use Rattle.std.proofs.Common.{◌≡◌, ◌≢◌, ℕ, zero, suc, List, [], ◌∷◌, ◌++◌, length, set, ◌⊎◌, inl, inr, ⊎_elim, refl, sym, ap, ◌∙◌, subst, arith}
use mathlib.Core.Option.{some-injective, some-ne-none}
use mathlib.Core.Logic.{dite}
use native.Mathlib.Decide.{ℕ_discrete}
use Rattle.core_steps.specs.declared.view.View.{View}
use Rattle.core_steps.specs.Invariant.{At, Each, Somewhere, AtMostOne}

pub at-same : (l : List View) (i : ℕ) (a b : View) → At l i a → At l i b → a ≡ b
at-same l i a b p q = some-injective a b (sym p ∙ q)

-- one view changes

pub at-set : (l : List View) (i j : ℕ) (w u : View) → At (set l i w) j u → ((j ≡ i) × (w ≡ u)) ⊎ ((j ≢ i) × At l j u)
at-set [] i j w u e = absurd (some-ne-none u (sym e))
at-set (x ∷ xs) zero zero w u e = inl (refl, some-injective w u e)
at-set (x ∷ xs) zero (suc j) w u e = inr ((λ h. omega arith), e)
at-set (x ∷ xs) (suc i) zero w u e = inr ((λ h. omega arith), e)
at-set (x ∷ xs) (suc i) (suc j) w u e = ⊎_elim (λ t. inl (ap suc t.0, t.1)) (λ t. let n = t.0 in inr ((λ h. n (omega arith)), t.1)) (at-set xs i j w u e)

pub set-here : (l : List View) (i : ℕ) (v w : View) → At l i v → At (set l i w) i w
set-here [] i v w e = absurd (some-ne-none v (sym e))
set-here (x ∷ xs) zero v w e = refl
set-here (x ∷ xs) (suc i) v w e = set-here xs i v w e

pub set-else : (l : List View) (i j : ℕ) (w u : View) → j ≢ i → At l j u → At (set l i w) j u
set-else [] i j w u ne e = e
set-else (x ∷ xs) zero zero w u ne e = absurd (ne refl)
set-else (x ∷ xs) zero (suc j) w u ne e = e
set-else (x ∷ xs) (suc i) zero w u ne e = e
set-else (x ∷ xs) (suc i) (suc j) w u ne e = set-else xs i j w u (λ h. ne (ap suc h)) e

pub each-set : (P : ℕ → View → Type 0) (views : List View) (i : ℕ) (w : View) → P i w → ((j : ℕ) (u : View) → j ≢ i → At views j u → P j u) → Each P (set views i w)
each-set P views i w mine others j u e = ⊎_elim (λ (t : (j ≡ i) × (w ≡ u)). subst (λ (y : ℕ × View). P y.0 y.1) (λ z. (sym t.0 z, t.1 z)) mine)
    (λ (t : (j ≢ i) × At views j u). others j u t.0 t.1) (at-set views i j w u e)

-- a property that the change keeps at every view
pub each-kept : (P : ℕ → View → Type 0) (views : List View) (i : ℕ) (v w : View) → At views i v → (P i v → P i w) → Each P views → Each P (set views i w)
each-kept P views i v w at keep all = each-set P views i w (keep (all i v at)) (λ j u _ e. all j u e)

pub somewhere-set : (P : View → Type 0) (views : List View) (i : ℕ) (v w : View) → At views i v → (P v → P w) → Somewhere P views → Somewhere P (set views i w)
somewhere-set P views i v w at keep some = dite (ℕ_discrete some.0 i)
    (λ same. (i, w, set-here views i v w at, keep (subst P (at-same views i some.1 v (subst (λ (y : ℕ). At views y some.1) same some.2) at) some.3)))
    (λ ne. (some.0, some.1, set-else views i some.0 w some.1 ne some.2, some.3))

set-back : (P : View → Type 0) (views : List View) (i : ℕ) (v w : View) → At views i v → (P w → P v) → (j : ℕ) (u : View) → At (set views i w) j u → P u → (z : View) × At views j z × P z
set-back P views i v w at less j u e h = ⊎_elim (λ (t : (j ≡ i) × (w ≡ u)). (v, subst (λ (k : ℕ). At views k v) (sym t.0) at, less (subst P (sym t.1) h)))
    (λ (t : (j ≢ i) × At views j u). (u, t.1, h)) (at-set views i j w u e)

pub one-set : (P : View → Type 0) (views : List View) (i : ℕ) (v w : View) → At views i v → (P w → P v) → AtMostOne P views → AtMostOne P (set views i w)
one-set P views i v w at less one p q u z at-p at-q hu hz = let x = set-back P views i v w at less p u at-p hu in let y = set-back P views i v w at less q z at-q hz in one p q x.0 y.0 x.1 y.1 x.2 y.2

-- the property is new to the view at i, and no other has it
pub one-new : (P : View → Type 0) (views : List View) (i : ℕ) (w : View) → ((j : ℕ) (u : View) → j ≢ i → At views j u → ¬ P u) → AtMostOne P (set views i w)
one-new P views i w none p q u z at-p at-q hu hz = let
    here : (j : ℕ) (y : View) → At (set views i w) j y → P y → j ≡ i = λ j y e h. ⊎_elim (λ (t : (j ≡ i) × (w ≡ y)). t.0) (λ (t : (j ≢ i) × At views j y). absurd (none j y t.0 t.1 h)) (at-set views i j w y e) in
    here p u at-p hu ∙ sym (here q z at-q hz)

-- main's view changes

pub each-main : (P : ℕ → View → Type 0) (m w : View) (ms : List View) → P 0 w → ((j : ℕ) (u : View) → At ms j u → P (suc j) u) → Each P (w ∷ ms)
each-main P m w ms here rest zero u e = subst (P 0) (some-injective w u e) here
each-main P m w ms here rest (suc j) u e = rest j u e

-- main's view changes, and one joins at the end

pub at-snoc : (l : List View) (a u : View) (j : ℕ) → At (l ++ a ∷ []) j u → (At l j u) ⊎ ((j ≡ length l) × (a ≡ u))
at-snoc [] a u zero e = inr (refl, some-injective a u e)
at-snoc [] a u (suc j) e = absurd (some-ne-none u (sym e))
at-snoc (x ∷ xs) a u zero e = inl e
at-snoc (x ∷ xs) a u (suc j) e = ⊎_elim (λ t. inl t) (λ t. inr (ap suc t.0, t.1)) (at-snoc xs a u j e)

pub at-longer : (l r : List View) (j : ℕ) (u : View) → At l j u → At (l ++ r) j u
at-longer [] r j u e = absurd (some-ne-none u (sym e))
at-longer (x ∷ xs) r zero u e = e
at-longer (x ∷ xs) r (suc j) u e = at-longer xs r j u e

pub at-last : (l : List View) (a : View) → At (l ++ a ∷ []) (length l) a
at-last [] a = refl
at-last (x ∷ xs) a = at-last xs a

pub each-lent : (P : ℕ → View → Type 0) (m l v : View) (ms : List View) → P 0 l → P (suc (length ms)) v → Each P (m ∷ ms) → Each P (l ∷ (ms ++ v ∷ []))
each-lent P m l v ms here last all zero u e = subst (P 0) (some-injective l u e) here
each-lent P m l v ms here last all (suc j) u e = ⊎_elim (λ t. all (suc j) u t)
    (λ (t : (j ≡ length ms) × (v ≡ u)). subst (λ (y : ℕ × View). P (suc y.0) y.1) (λ z. (sym t.0 z, t.1 z)) last) (at-snoc ms v u j e)

pub somewhere-lent : (P : View → Type 0) (m l v : View) (ms : List View) → (P m → P l) → Somewhere P (m ∷ ms) → Somewhere P (l ∷ (ms ++ v ∷ []))
somewhere-lent P m l v ms keep some = go some.0 some.1 some.2 some.3 where
  go : (i : ℕ) (u : View) → At (m ∷ ms) i u → P u → Somewhere P (l ∷ (ms ++ v ∷ []))
  go zero u e h = (0, l, refl, keep (subst P (sym (some-injective m u e)) h))
  go (suc i) u e h = (suc i, u, at-longer ms (v ∷ []) i u e, h)

lent-back : (P : View → Type 0) (m l v : View) (ms : List View) → (P l → P m) → ¬ P v → (j : ℕ) (u : View) → At (l ∷ (ms ++ v ∷ [])) j u → P u → (z : View) × At (m ∷ ms) j z × P z
lent-back P m l v ms less none zero u e h = (m, refl, less (subst P (sym (some-injective l u e)) h))
lent-back P m l v ms less none (suc j) u e h = ⊎_elim (λ t. (u, t, h)) (λ (t : (j ≡ length ms) × (v ≡ u)). absurd (none (subst P (sym t.1) h))) (at-snoc ms v u j e)

pub one-lent : (P : View → Type 0) (m l v : View) (ms : List View) → (P l → P m) → ¬ P v → AtMostOne P (m ∷ ms) → AtMostOne P (l ∷ (ms ++ v ∷ []))
one-lent P m l v ms less none one p q u z at-p at-q hu hz = let x = lent-back P m l v ms less none p u at-p hu in let y = lent-back P m l v ms less none q z at-q hz in one p q x.0 y.0 x.1 y.1 x.2 y.2

-- only the view at the end has the property
pub one-last : (P : View → Type 0) (m l v : View) (ms : List View) → ¬ P l → Each (λ _ u. ¬ P u) (m ∷ ms) → AtMostOne P (l ∷ (ms ++ v ∷ []))
one-last P m l v ms first others p q u z at-p at-q hu hz = end p u at-p hu ∙ sym (end q z at-q hz) where
  end : (j : ℕ) (y : View) → At (l ∷ (ms ++ v ∷ [])) j y → P y → j ≡ suc (length ms)
  end zero y e h = absurd (first (subst P (sym (some-injective l y e)) h))
  end (suc j) y e h = ⊎_elim (λ t. absurd (others (suc j) y t h)) (λ (t : (j ≡ length ms) × (v ≡ y)). ap suc t.0) (at-snoc ms v y j e)

-- main's view takes in the one behind it at j, which is spent then

joined-cases : (m b s : View) (ms : List View) (j p : ℕ) (u : View) → At (b ∷ set ms j s) p u
    → ((p ≡ suc j) × (s ≡ u)) ⊎ (((p ≡ 0) × (b ≡ u)) ⊎ ((p ≢ suc j) × (p ≢ 0) × At (m ∷ ms) p u))
joined-cases m b s ms j zero u e = inr (inl (refl, some-injective b u e))
joined-cases m b s ms j (suc p) u e = ⊎_elim (λ (t : (p ≡ j) × (s ≡ u)). inl (ap suc t.0, t.1)) (λ (t : (p ≢ j) × At ms p u). let n = t.0 in inr (inr ((λ h. n (omega arith)), (λ h. omega arith), t.1))) (at-set ms j p s u e)

pub each-joined : (P : ℕ → View → Type 0) (m b s : View) (ms : List View) (j : ℕ) → P 0 b → P (suc j) s → ((p : ℕ) (u : View) → p ≢ suc j → p ≢ 0 → At (m ∷ ms) p u → P p u) → Each P (b ∷ set ms j s)
each-joined P m b s ms j first gone others p u e = ⊎_elim (λ (t : (p ≡ suc j) × (s ≡ u)). subst (λ (y : ℕ × View). P y.0 y.1) (λ z. (sym t.0 z, t.1 z)) gone)
    (λ rest. ⊎_elim (λ (t : (p ≡ 0) × (b ≡ u)). subst (λ (y : ℕ × View). P y.0 y.1) (λ z. (sym t.0 z, t.1 z)) first) (λ (t : (p ≢ suc j) × (p ≢ 0) × At (m ∷ ms) p u). others p u t.0 t.1 t.2) rest)
    (joined-cases m b s ms j p u e)

pub somewhere-joined : (P : View → Type 0) (m b s v : View) (ms : List View) (j : ℕ) → At ms j v → (P m → P b) → (P v → P b) → Somewhere P (m ∷ ms) → Somewhere P (b ∷ set ms j s)
somewhere-joined P m b s v ms j at main joined some = go some.0 some.1 some.2 some.3 where
  go : (i : ℕ) (u : View) → At (m ∷ ms) i u → P u → Somewhere P (b ∷ set ms j s)
  go zero u e h = (0, b, refl, main (subst P (sym (some-injective m u e)) h))
  go (suc i) u e h = dite (ℕ_discrete i j)
      (λ same. (0, b, refl, joined (subst P (at-same ms j u v (subst (λ (y : ℕ). At ms y u) same e) at) h)))
      (λ ne. (suc i, u, set-else ms j i s u ne e, h))

-- at most one view had the property, so at most one has it when main's has what the joined one had
pub one-joined : (P : View → Type 0) (m b s v : View) (ms : List View) (j : ℕ) → At ms j v → ¬ P s → (P b → (P m) ⊎ (P v)) → AtMostOne P (m ∷ ms) → AtMostOne P (b ∷ set ms j s)
one-joined P m b s v ms j at none split one p q u z at-p at-q hu hz = final (source p u at-p hu) (source q z at-q hz) where
  -- the place in the old list that a view of the new list has its property from
  source : (i : ℕ) (y : View) → At (b ∷ set ms j s) i y → P y → (k : ℕ) × (x : View) × At (m ∷ ms) k x × P x × ((i ≡ 0) × ((k ≡ 0) ⊎ (k ≡ suc j)) ⊎ (i ≢ 0) × (k ≢ 0) × (k ≢ suc j) × (i ≡ k))
  source i y e h = ⊎_elim (λ (t : (i ≡ suc j) × (s ≡ y)). absurd (none (subst P (sym t.1) h)))
      (λ rest. ⊎_elim (λ (t : (i ≡ 0) × (b ≡ y)). ⊎_elim (λ a. (0, m, refl, a, inl (t.0, inl refl))) (λ c. (suc j, v, at, c, inl (t.0, inr refl))) (split (subst P (sym t.1) h)))
      (λ (t : (i ≢ suc j) × (i ≢ 0) × At (m ∷ ms) i y). (i, y, t.2, h, inr (t.1, t.1, t.0, refl))) rest)
      (joined-cases m b s ms j i y e)

  final : (k : ℕ) × (x : View) × At (m ∷ ms) k x × P x × ((p ≡ 0) × ((k ≡ 0) ⊎ (k ≡ suc j)) ⊎ (p ≢ 0) × (k ≢ 0) × (k ≢ suc j) × (p ≡ k))
      → (k : ℕ) × (x : View) × At (m ∷ ms) k x × P x × ((q ≡ 0) × ((k ≡ 0) ⊎ (k ≡ suc j)) ⊎ (q ≢ 0) × (k ≢ 0) × (k ≢ suc j) × (q ≡ k)) → p ≡ q
  final x y = let same : x.0 ≡ y.0 = one x.0 y.0 x.1 y.1 x.2 y.2 x.3 y.3 in
      ⊎_elim (λ a. ⊎_elim (λ c. a.0 ∙ sym c.0) (λ c. absurd (⊎_elim (λ z. c.1 (sym same ∙ z)) (λ z. c.2 (sym same ∙ z)) a.1)) y.4)
      (λ a. ⊎_elim (λ c. absurd (⊎_elim (λ z. a.1 (same ∙ z)) (λ z. a.2 (same ∙ z)) c.1)) (λ c. a.3 ∙ same ∙ sym c.3) y.4) x.4
