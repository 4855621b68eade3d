-- Spots: a padded point and a place in the text, and their order.
use Rattle.std.proofs.Common.{◌≡◌, refl, sym, ap, ◌∙◌, ℕ, zero, suc, ◌<◌, ◌≤◌, ◌+◌, ℤ, pos, ◌≤ℤ◌, ◌<ℤ◌, List, ◌++◌, map, ◌⊎◌, inl, inr, ⊎_elim, Less, int_cmp, arith}
use Rattle.std.specs.List.{range_with_len}
use Rattle.std.specs.Cmp.Lexicographic.{slice_cmp}
use Rattle.std.proofs.lemmas.Int.{ints}
use Rattle.std.proofs.lemmas.Bool.{cases_lt}
use Rattle.plain_lemmas.proofs.OrderLaws.{cases-int_cmp, ordering_then-same, ordering_then-less}

pub record Spot : Type 0 where
  pub place : ℕ → ℤ
  pub text : ℕ

-- the first n numbers are the same
abbrev pub Agree : ℕ → (ℕ → ℤ) → (ℕ → ℤ) → Type 0
Agree n p q = (i : ℕ) → i < n → p i ≡ q i

-- the first of n numbers that differs is less
pub record Rises (n : ℕ) (p q : ℕ → ℤ) : Type 0 where
  pub index : ℕ
  pub inside : index < n
  pub same : Agree index p q
  pub less : p index <ℤ q index

abbrev pub Before : ℕ → Spot → Spot → Type 0
Before n a b = Rises n a.place b.place ⊎ (Agree n a.place b.place × (a.text < b.text))

pub agree-sym : (n : ℕ) (p q : ℕ → ℤ) → Agree n p q → Agree n q p
agree-sym n p q h i l = sym (h i l)

pub agree-more : (n : ℕ) (p q : ℕ → ℤ) → Agree n p q → p n ≡ q n → Agree (suc n) p q
agree-more n p q h e i l = ⊎_elim (λ m. h i m) (λ m. let f : i ≡ n = omega arith in ap p f ∙ e ∙ sym (ap q f)) (cases_lt i n)

pub compared : (n : ℕ) (p q : ℕ → ℤ) → (Agree n p q) ⊎ (Rises n p q ⊎ Rises n q p)
compared zero p q = inl (λ i l. absurd (omega arith))
compared (suc n) p q =
    ⊎_elim
    (λ same. cases-int_cmp (p n) (q n)
    (λ less. inr (inl (record { index = n; inside = omega arith; same = same; less = less })))
    (λ e. inl (agree-more n p q same e))
    (λ less. inr (inr (record { index = n; inside = omega arith; same = agree-sym n p q same; less = less }))))
    (λ h. inr (⊎_elim (λ r. inl (wider p q r)) (λ r. inr (wider q p r)) h))
    (compared n p q)
  where
    wider : (f g : ℕ → ℤ) → Rises n f g → Rises (suc n) f g
    wider f g r = record { index = r.index; inside = omega (arith, r.inside); same = r.same; less = r.less }

-- one of two spots is before the other, or they are the same
pub three : (n : ℕ) (a b : Spot) → Before n a b ⊎ ((Agree n a.place b.place × (a.text ≡ b.text)) ⊎ Before n b a)
three n a b =
    ⊎_elim
    (λ same. texts same (cases_lt a.text b.text) (cases_lt b.text a.text))
    (λ h. ⊎_elim (λ r. inl (inl r)) (λ r. inr (inr (inl r))) h)
    (compared n a.place b.place)
  where
    texts : Agree n a.place b.place → (a.text < b.text) ⊎ (b.text ≤ a.text) → (b.text < a.text) ⊎ (a.text ≤ b.text) → Before n a b ⊎ ((Agree n a.place b.place × (a.text ≡ b.text)) ⊎ Before n b a)
    texts same (inl l) m = inl (inr (same, l))
    texts same (inr l) (inl m) = inr (inr (inr (agree-sym n a.place b.place same, m)))
    texts same (inr l) (inr m) = inr (inl (same, omega arith))

-- behind the same numbers the next one is at most the other
pub upto : (n k : ℕ) (a b : Spot) → k < n → Agree k a.place b.place → Before n a b → a.place k ≤ℤ b.place k
upto n k a b l same (inr h) = let e = h.0 k l in omega (arith, ints)
upto n k a b l same (inl r) = at (cases_lt r.index k) (cases_lt k r.index)
  where
    at : (r.index < k) ⊎ (k ≤ r.index) → (k < r.index) ⊎ (r.index ≤ k) → a.place k ≤ℤ b.place k
    at (inl m) o = let e = same r.index m in let less = r.less in absurd (omega (arith, ints))
    at (inr m) (inl o) = let e = r.same k o in omega (arith, ints)
    at (inr m) (inr o) = let e : r.index ≡ k = omega arith in let f = ap a.place e in let g = ap b.place e in let less = r.less in omega (arith, ints)

-- behind the same points the places decide
pub by-text : (n : ℕ) (a b : Spot) → Agree n a.place b.place → Before n a b → a.text < b.text
by-text n a b same (inr h) = h.1
by-text n a b same (inl r) = let e = same r.index r.inside in let less = r.less in absurd (omega (arith, ints))

-- what lies between two spots that begin alike begins so too
pub between : (n k : ℕ) (a z b : Spot) → k ≤ n → Agree k a.place b.place → Before n a z → Before n z b → Agree k a.place z.place
between n zero a z b h same low high = λ i l. absurd (omega arith)
between n (suc k) a z b h same low high =
    let rest : Agree k a.place z.place = between n k a z b (omega arith) (λ i l. same i (omega arith)) low high in
    let first = upto n k a z (omega arith) rest low in
    let second = upto n k z b (omega arith) (λ i l. sym (rest i l) ∙ same i (omega arith)) high in
    let e = same k (omega arith) in
    agree-more k a.place z.place rest (omega (arith, ints))

-- a point with no negative number that is at most one with zeros is that one
pub agree-zeros : (n k d : ℕ) (z b : Spot) → k + d ≤ n → Agree k z.place b.place → ((i : ℕ) → k ≤ i → pos 0 ≤ℤ z.place i) → ((i : ℕ) → k ≤ i → b.place i ≡ pos 0) → Before n z b → Agree (k + d) z.place b.place
agree-zeros n k zero z b h same up zeros below = λ i l. same i (omega arith)
agree-zeros n k (suc d) z b h same up zeros below =
    let rest : Agree (k + d) z.place b.place = agree-zeros n k d z b (omega arith) same up zeros below in
    let first = upto n (k + d) z b (omega arith) rest below in
    let least = up (k + d) (omega arith) in
    let none = zeros (k + d) (omega arith) in
    let all : Agree (suc (k + d)) z.place b.place = agree-more (k + d) z.place b.place rest (omega (arith, ints)) in
    λ i l. all i (omega arith)

-- ---- as lists

rises-less : (n a : ℕ) (p q : ℕ → ℤ) (us vs : List ℤ) (k : ℕ) → a ≤ k → k < a + n → ((i : ℕ) → a ≤ i → i < k → p i ≡ q i) → p k <ℤ q k → slice_cmp int_cmp (map p (range_with_len a n) ++ us) (map q (range_with_len a n) ++ vs) ≡ Less
rises-less zero a p q us vs k from to same less = absurd (omega arith)
rises-less (suc n) a p q us vs k from to same less =
    ⊎_elim
    (λ l. ordering_then-same (p a) (q a) _ (same a (omega arith) l) ∙ rises-less n (a + 1) p q us vs k (omega arith) (omega arith) (λ i m o. same i (omega arith) o) less)
    (λ l. let e : k ≡ a = omega arith in let f = ap p e in let g = ap q e in ordering_then-less (p a) (q a) _ (omega (arith, ints)))
    (cases_lt a k)

agree-less : (n a : ℕ) (p q : ℕ → ℤ) (us vs : List ℤ) → ((i : ℕ) → a ≤ i → i < a + n → p i ≡ q i) → slice_cmp int_cmp (map p (range_with_len a n) ++ us) (map q (range_with_len a n) ++ vs) ≡ slice_cmp int_cmp us vs
agree-less zero a p q us vs same = refl
agree-less (suc n) a p q us vs same =
    ordering_then-same (p a) (q a) _ (same a (omega arith) (omega arith)) ∙ agree-less n (a + 1) p q us vs (λ i l m. same i (omega arith) (omega arith))

pub less-rises : (n : ℕ) (p q : ℕ → ℤ) (us vs : List ℤ) → Rises n p q → slice_cmp int_cmp (map p (range_with_len 0 n) ++ us) (map q (range_with_len 0 n) ++ vs) ≡ Less
less-rises n p q us vs r = rises-less n 0 p q us vs r.index (omega arith) (omega (arith, r.inside)) (λ i l m. r.same i m) r.less

pub less-agree : (n : ℕ) (p q : ℕ → ℤ) (us vs : List ℤ) → Agree n p q → slice_cmp int_cmp (map p (range_with_len 0 n) ++ us) (map q (range_with_len 0 n) ++ vs) ≡ slice_cmp int_cmp us vs
less-agree n p q us vs same = agree-less n 0 p q us vs (λ i l m. same i (omega arith))

-- ---- one after another

pub before-trans : (n : ℕ) (a b c : Spot) → Before n a b → Before n b c → Before n a c
before-trans n a b c (inr h) (inr k) = inr (λ i l. h.0 i l ∙ k.0 i l, (let x = h.1 in let y = k.1 in omega arith))
before-trans n a b c (inr h) (inl r) =
    let less = r.less in let e = h.0 r.index r.inside in
    inl (record { index = r.index; inside = r.inside; same = λ i l. h.0 i (omega (arith, r.inside)) ∙ r.same i l; less = omega (arith, ints) })
before-trans n a b c (inl r) (inr h) =
    let less = r.less in let e = h.0 r.index r.inside in
    inl (record { index = r.index; inside = r.inside; same = λ i l. r.same i l ∙ h.0 i (omega (arith, r.inside)); less = omega (arith, ints) })
before-trans n a b c (inl r) (inl s) = at (cases_lt r.index s.index) (cases_lt s.index r.index)
  where
    at : (r.index < s.index) ⊎ (s.index ≤ r.index) → (s.index < r.index) ⊎ (r.index ≤ s.index) → Before n a c
    at (inl m) o =
        let less = r.less in let e = s.same r.index m in
        inl (record { index = r.index; inside = r.inside; same = λ i l. r.same i l ∙ s.same i (omega arith); less = omega (arith, ints) })
    at (inr m) (inl o) =
        let less = s.less in let e = r.same s.index o in
        inl (record { index = s.index; inside = s.inside; same = λ i l. r.same i (omega arith) ∙ s.same i l; less = omega (arith, ints) })
    at (inr m) (inr o) =
        let e : r.index ≡ s.index = omega arith in
        let f = ap b.place e in let g = ap c.place e in
        let less = r.less in let more = s.less in
        inl (record { index = r.index; inside = r.inside; same = λ i l. r.same i l ∙ s.same i (omega arith); less = omega (arith, ints) })

-- another spot with the same point and place
pub before-right : (n : ℕ) (a b c : Spot) → Agree n b.place c.place → b.text ≡ c.text → Before n a b → Before n a c
before-right n a b c same e (inr h) = inr (λ i l. h.0 i l ∙ same i l, (let x = h.1 in omega arith))
before-right n a b c same e (inl r) =
    let less = r.less in let f = same r.index r.inside in
    inl (record { index = r.index; inside = r.inside; same = λ i l. r.same i l ∙ same i (omega (arith, r.inside)); less = omega (arith, ints) })

pub before-left : (n : ℕ) (a b c : Spot) → Agree n a.place b.place → a.text ≡ b.text → Before n b c → Before n a c
before-left n a b c same e (inr h) = inr (λ i l. same i l ∙ h.0 i l, (let x = h.1 in omega arith))
before-left n a b c same e (inl r) =
    let less = r.less in let f = same r.index r.inside in
    inl (record { index = r.index; inside = r.inside; same = λ i l. same i (omega (arith, r.inside)) ∙ r.same i l; less = omega (arith, ints) })
