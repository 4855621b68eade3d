-- A list of instances is itself an instance: what it reads and writes is what its elements do.
use Rattle.std.proofs.Common.{◌≡◌, ℕ, ℤ, Bool, true, false, ◌||◌, ◌⊎◌, Option, Some, None, List, [], ◌∷◌, ◌++◌, length, refl, sym, ap, ◌∙◌, subst, arith, inl, inr, ⊎_elim, true≢false}
use Rattle.std.specs.List.{list_any}
use Rattle.orders.specs.Runs.{Outcome, word, Machine, touches, SameOn, Alike, Lawful, Apart, plus, and_then, follow}
use Rattle.plain_lemmas.specs.Lists.{Has}
use Rattle.orders.specs.Tiles.{lists, flat}
use Rattle.orders.proofs.SwapLaws.{or-first, or-second, not-true, plus-zero, then-same, then-then, then-some, some-injective, long-follow}

pub or-from-first : (a b : Bool) → a ≡ true → (a || b) ≡ true
or-from-first true b h = refl
or-from-first false b h = absurd (true≢false (sym h))

pub or-from-second : (a b : Bool) → b ≡ true → (a || b) ≡ true
or-from-second true b h = refl
or-from-second false b h = h

pub or_cases : (a b : Bool) → (a || b) ≡ true → (a ≡ true) ⊎ (b ≡ true)
or_cases true b h = inl refl
or_cases false b h = inr h

pub alike-then : (p : ℕ → Bool) (o o' : Option Outcome) (f g : List ℤ → Option Outcome) → Alike p o o'
    → ((q r : Outcome) → o ≡ Some q → o' ≡ Some r → SameOn p q.memory r.memory → Alike p (f q.memory) (g r.memory)) → Alike p (and_then o f) (and_then o' g)
alike-then p None None f g h more = tt
alike-then p None (Some r) f g h more = absurd h
alike-then p (Some q) None f g h more = absurd h
alike-then p (Some q) (Some r) f g h more = add (f q.memory) (g r.memory) (more q r refl refl h.1)
  where
    add : (a b : Option Outcome) → Alike p a b → Alike p (plus q.steps a) (plus r.steps b)
    add None None k = tt
    add None (Some b) k = absurd k
    add (Some a) None k = absurd k
    add (Some a) (Some b) k = (omega (arith, h.0, k.0), k.1)

pub alike-weaker : (p q : ℕ → Bool) (o o' : Option Outcome) → ((a : ℕ) → q a ≡ true → p a ≡ true) → Alike p o o' → Alike q o o'
alike-weaker p q None None weaker h = tt
alike-weaker p q None (Some r) weaker h = absurd h
alike-weaker p q (Some r) None weaker h = absurd h
alike-weaker p q (Some a) (Some b) weaker h = (h.0, λ i k. h.1 i (weaker i k))

module _ {X : Type 0} where
  pub any-has : (p : X → Bool) (xs : List X) → list_any p xs ≡ true → (x : X) × Has xs x × (p x ≡ true)
  any-has p [] h = absurd (true≢false (sym h))
  any-has p (x ∷ xs) h = ⊎_elim (λ k. (x, inl refl, k)) (λ k. let (y, has, is) = any-has p xs k in (y, inr has, is)) (or_cases (p x) (list_any p xs) h)

  pub has_any : (p : X → Bool) (xs : List X) (x : X) → Has xs x → p x ≡ true → list_any p xs ≡ true
  has_any p [] x h e = absurd h
  has_any p (y ∷ ys) x (inl same) e = or-from-first _ _ (subst (λ z. p z ≡ true) same e)
  has_any p (y ∷ ys) x (inr h) e = or-from-second _ _ (has_any p ys x h e)

module _ {X : Type 0} (s : Machine X) where
  pub follow-append : (xs ys : List X) (m : List ℤ) → follow s (xs ++ ys) m ≡ and_then (follow s xs m) (follow s ys)
  follow-append [] ys m = sym (plus-zero (follow s ys m))
  follow-append (x ∷ xs) ys m = then-same (s.run x m) _ _ (λ r e. follow-append xs ys r.memory) ∙ sym (then-then (s.run x m) (follow s xs) (follow s ys))

  pub follow-flat : (xss : List (List X)) (m : List ℤ) → follow s (flat xss) m ≡ follow (lists s) xss m
  follow-flat [] m = refl
  follow-flat (xs ∷ xss) m = follow-append xs (flat xss) m ∙ then-same (follow s xs m) _ _ (λ r e. follow-flat xss r.memory)

  -- what a list touches, one of its elements touches
  pub touches-lists : (xs : List X) (a : ℕ) → touches (lists s) xs a ≡ true → (x : X) × Has xs x × (touches s x a ≡ true)
  touches-lists xs a h =
      ⊎_elim (λ k. let (x, has, is) = any-has (λ x. s.reads x a) xs k in (x, has, or-from-first _ _ is))
      (λ k. let (x, has, is) = any-has (λ x. s.writes x a) xs k in (x, has, or-from-second _ _ is))
      (or_cases (list_any (λ x. s.reads x a) xs) (list_any (λ x. s.writes x a) xs) h)

  pub touches-from-has : (xs : List X) (x : X) (a : ℕ) → Has xs x → touches s x a ≡ true → touches (lists s) xs a ≡ true
  touches-from-has xs x a has h =
      ⊎_elim (λ k. or-from-first _ _ (has_any (λ x. s.reads x a) xs x has k)) (λ k. or-from-second _ _ (has_any (λ x. s.writes x a) xs x has k))
      (or_cases (s.reads x a) (s.writes x a) h)

  pub lists-apart : (xs ys : List X) → ((x y : X) → Has xs x → Has ys y → Apart s x y) → Apart (lists s) xs ys
  lists-apart xs ys apart = record {
    first = λ a w. not-true _ (λ t.
        let (x, hx, wx) = any-has (λ x. s.writes x a) xs w in
        let (y, hy, ty) = touches-lists ys a t in
        true≢false (sym ty ∙ (apart x y hx hy).first a wx));
    second = λ a w. not-true _ (λ t.
        let (y, hy, wy) = any-has (λ x. s.writes x a) ys w in
        let (x, hx, tx) = touches-lists xs a t in
        true≢false (sym tx ∙ (apart x y hx hy).second a wy));
  }

  module _ (lawful : Lawful s) where
    -- words that are alike on more than an instance touches are still so after it
    pub near-more : (p : ℕ → Bool) (x : X) (m w : List ℤ) → length m ≡ s.size → length w ≡ s.size → ((a : ℕ) → touches s x a ≡ true → p a ≡ true) → SameOn p m w → Alike p (s.run x m) (s.run x w)
    near-more p x m w lm lw inside same = both (s.run x m) (s.run x w) refl refl (lawful.near x m w lm lw (λ a t. same a (inside a t)))
      where
        both : (o o' : Option Outcome) → s.run x m ≡ o → s.run x w ≡ o' → Alike (s.writes x) o o' → Alike p o o'
        both None None e f h = tt
        both None (Some r) e f h = absurd h
        both (Some q) None e f h = absurd h
        both (Some q) (Some r) e f h = (h.0, λ a k. at-word a (s.writes x a) refl k)
          where
            at-word : (a : ℕ) (b : Bool) → s.writes x a ≡ b → p a ≡ true → word q.memory a ≡ word r.memory a
            at-word a true is k = h.1 a is
            at-word a false is k = lawful.kept x m q lm e a is ∙ same a k ∙ sym (lawful.kept x w r lw f a is)

    pub follow-near : (p : ℕ → Bool) (xs : List X) (m w : List ℤ) → length m ≡ s.size → length w ≡ s.size → ((x : X) → Has xs x → (a : ℕ) → touches s x a ≡ true → p a ≡ true) → SameOn p m w
        → Alike p (follow s xs m) (follow s xs w)
    follow-near p [] m w lm lw inside same = (refl, same)
    follow-near p (x ∷ xs) m w lm lw inside same =
        alike-then p _ _ (follow s xs) (follow s xs) (near-more p x m w lm lw (inside x (inl refl)) same)
        (λ q r e f now. follow-near p xs q.memory r.memory (lawful.long x m q lm e) (lawful.long x w r lw f) (λ y h. inside y (inr h)) now)

    pub follow-kept : (xs : List X) (m : List ℤ) (r : Outcome) → length m ≡ s.size → follow s xs m ≡ Some r → (a : ℕ) → list_any (λ x. s.writes x a) xs ≡ false → word r.memory a ≡ word m a
    follow-kept [] m r size e a none = ap (λ (q : Outcome). word q.memory a) (sym (some-injective _ _ e))
    follow-kept (x ∷ xs) m r size e a none =
        let (q, t, f, g, is) = then-some (s.run x m) (follow s xs) r e in
        ap (λ (v : Outcome). word v.memory a) is
        ∙ follow-kept xs q.memory t (lawful.long x m q size f) g a (or-second (s.writes x a) _ none)
        ∙ lawful.kept x m q size f a (or-first (s.writes x a) _ none)

    pub lists-lawful : Lawful (lists s)
    lists-lawful = record {
      long = long-follow s lawful;
      kept = follow-kept;
      near = λ xs m w lm lw same.
          alike-weaker (touches (lists s) xs) ((lists s).writes xs) _ _ (λ a h. or-from-second _ _ h)
          (follow-near (touches (lists s) xs) xs m w lm lw (λ x has a t. touches-from-has xs x a has t) same);
    }
