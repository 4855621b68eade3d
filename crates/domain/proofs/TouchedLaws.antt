-- Words that are expected of accesses, as they are gathered in lists.
use Rattle.std.proofs.Common.{◌≡◌, refl, sym, ap, subst, ◌∙◌, ℕ, zero, suc, ◌<◌, ◌≤◌, ◌+◌, ℤ, pos, ◌+ℤ◌, ◌≤ℤ◌, ◌<ℤ◌, Bool, true, false, Some, None, List, [], ◌∷◌, ◌++◌, length, ◌⊎◌, inl, inr, ⊎_elim, arith}
use Rattle.std.specs.Prelude.{Contains, ◌↔◌, slice_get}
use Rattle.std.proofs.lemmas.Int.{ints}
use Rattle.std.proofs.lemmas.Bool.{cases_lt}
use Rattle.std.proofs.lemmas.Option.{slice_get_within}
use Rattle.std.proofs.lemmas.List.Elements.{Contains-append_left, Contains-append_right, Contains-append_cases}
use Rattle.plain_lemmas.proofs.OrderLaws.{cases-int_cmp}
use Rattle.plain_lemmas.proofs.MembershipLaws.{has-from-contains, contains-from-has}
use Rattle.std.specs.List.Sorted.{IsStrictlyIncreasing}
use Rattle.domain.specs.Tables.{Table, Access, access_at}
use Rattle.domain.specs.Instances.{Instance, block_of}
use Rattle.domain.specs.Footprints.{Gains, IsWordOf, Touches, Reads, Writes, IsListOf}

pub gains-none : (P : ℕ → Type 0) (xs : List ℕ) → ((a : ℕ) → P a → ⊥) → Gains P xs xs
gains-none P xs none a = (inl, ⊎_elim (λ h. h) (λ p. absurd (none a p)))

pub gains-same : (P Q : ℕ → Type 0) (xs ys : List ℕ) → ((a : ℕ) → P a ↔ Q a) → Gains P xs ys → Gains Q xs ys
gains-same P Q xs ys same g a = (λ h. ⊎_elim inl (λ p. inr ((same a).0 p)) ((g a).0 h), λ h. (g a).1 (⊎_elim inl (λ q. inr ((same a).1 q)) h))

alone : (y a : ℕ) → Contains (y ∷ []) a → a ≡ y
alone y a h = ⊎_elim (λ e. e) (λ z. absurd z) (has-from-contains (y ∷ []) a h)

pub gains-push : (xs ys : List ℕ) (from to : ℕ) → from ≤ to → Gains (λ a. (from ≤ a) × (a < to)) xs ys → Gains (λ a. (from ≤ a) × (a < to + 1)) xs (ys ++ to ∷ [])
gains-push xs ys from to le g a = (
  λ h. ⊎_elim (λ k. ⊎_elim inl (λ p. let q = p.1 in inr (p.0, omega arith)) ((g a).0 k)) (λ k. let e = alone to a k in inr (omega arith, omega arith)) (Contains-append_cases ys (to ∷ []) a h),
  λ h. ⊎_elim
      (λ k. Contains-append_left ys (to ∷ []) a ((g a).1 (inl k)))
      (λ p. let low = p.0 in let high = p.1 in ⊎_elim
      (λ l. Contains-append_left ys (to ∷ []) a ((g a).1 (inr (low, l))))
      (λ l. let e : a ≡ to = omega arith in Contains-append_right ys (to ∷ []) a (contains-from-has (to ∷ []) a (inl e)))
      (cases_lt a to)) h,
)

-- what a loop over a range has passed at its end
pub range-same : (from to at : ℕ) → to ≤ at → (at ≤ from) ⊎ (at ≤ to) → (a : ℕ) → ((from ≤ a) × (a < at)) ↔ ((from ≤ a) × (a < to))
range-same from to at h (inl l) a = (λ p. let x = p.0 in let y = p.1 in absurd (omega arith), λ p. let y = p.1 in (p.0, omega arith))
range-same from to at h (inr l) a = (λ p. let y = p.1 in (p.0, omega arith), λ p. let y = p.1 in (p.0, omega arith))

pub between : (line low high : ℤ) (first end words : ℕ) → end ≤ words
    → ((a : ℕ) → a < words → (first ≤ a) ↔ ((line +ℤ low) ≤ℤ pos a))
    → ((a : ℕ) → a < words → (end ≤ a) ↔ (((line +ℤ high) +ℤ pos 1) ≤ℤ pos a))
    → (a : ℕ) → ((first ≤ a) × (a < end)) ↔ ((((line +ℤ low) ≤ℤ pos a) × (pos a ≤ℤ (line +ℤ high))) × (a < words))
between line low high first end words em hf he a = (there, back)
  where
    there : (first ≤ a) × (a < end) → (((line +ℤ low) ≤ℤ pos a) × (pos a ≤ℤ (line +ℤ high))) × (a < words)
    there (f, g) =
        let w : a < words = omega arith in
        (((hf a w).0 f, cases-int_cmp (line +ℤ high) (pos a) (λ l. absurd (let e = (he a w).1 (omega (arith, ints)) in omega arith)) (λ e. omega (arith, ints)) (λ m. omega (arith, ints))), w)

    back : (((line +ℤ low) ≤ℤ pos a) × (pos a ≤ℤ (line +ℤ high))) × (a < words) → (first ≤ a) × (a < end)
    back ((l, h), w) = ((hf a w).1 l, ⊎_elim (λ b. b) (λ b. absurd (let z = (he a w).0 b in omega (arith, ints))) (cases_lt a end))

-- a word that is expected of one of the first n accesses
pub record IsWordBelow (accesses : List Access) (n : ℕ) (at : List ℤ) (words : ℕ) (stores : Bool) (address : ℕ) : Type 0 where
  pub place : ℕ
  pub access : Access
  pub below : place < n
  pub is : slice_get accesses place ≡ Some access
  pub word : IsWordOf access at words stores address

-- a list has the words that are expected of the first n accesses
abbrev pub HasWords : List Access → ℕ → List ℤ → ℕ → Bool → List ℕ → Type 0
HasWords accesses n at words stores list = (address : ℕ) → Contains list address ↔ IsWordBelow accesses n at words stores address

some-same : {X : Type 0} (x y : X) → Some x ≡ Some y → x ≡ y
some-same x y e = cc

pub words-none : (accesses : List Access) (at : List ℤ) (words : ℕ) (stores : Bool) → HasWords accesses 0 at words stores []
words-none accesses at words stores a = (λ h. absurd (has-from-contains [] a h), λ w. absurd (let b = w.below in omega arith))

pub words-more : (accesses : List Access) (n : ℕ) (access : Access) (at : List ℤ) (words : ℕ) (stores : Bool) (xs ys : List ℕ) → slice_get accesses n ≡ Some access
    → HasWords accesses n at words stores xs → Gains (IsWordOf access at words stores) xs ys → HasWords accesses (n + 1) at words stores ys
words-more accesses n access at words stores xs ys is h g a = (there, back)
  where
    there : Contains ys a → IsWordBelow accesses (n + 1) at words stores a
    there k = ⊎_elim
        (λ o. let w = (h a).0 o in record { place = w.place; access = w.access; below = (let b = w.below in omega arith); is = w.is; word = w.word })
        (λ w. record { place = n; access = access; below = omega arith; is = is; word = w })
        ((g a).0 k)

    back : IsWordBelow accesses (n + 1) at words stores a → Contains ys a
    back w = ⊎_elim
        (λ l. (g a).1 (inl ((h a).1 (record { place = w.place; access = w.access; below = l; is = w.is; word = w.word }))))
        (λ l. let b = w.below in let e : w.place ≡ n = omega arith in
        let same : w.access ≡ access = some-same w.access access (sym w.is ∙ ap (slice_get accesses) e ∙ is) in
        (g a).1 (inr (subst (λ (x : Access). IsWordOf x at words stores a) same w.word)))
        (cases_lt w.place n)

-- ---- footprints

read-word : (t : Table) (x : Instance) (words a : ℕ) → IsWordBelow (block_of t x).accesses (length (block_of t x).accesses) x.at words false a → Reads t (pos words) x (pos a)
read-word t x words a w = (
  record { number = suc w.place; access = w.access; is = w.is; kind = w.word.kind; expected = w.word.expected },
  omega (arith, ints),
  (let l = w.word.word in omega (arith, ints)),
)

write-word : (t : Table) (x : Instance) (words a : ℕ) → IsWordBelow (block_of t x).accesses (length (block_of t x).accesses) x.at words true a → Writes t x (pos a)
write-word t x words a w = record { number = suc w.place; access = w.access; is = w.is; kind = w.word.kind; expected = w.word.expected }

touched-word : (t : Table) (x : Instance) (words a : ℕ) (stores : Bool) → Touches t x (pos a) stores → a < words → IsWordBelow (block_of t x).accesses (length (block_of t x).accesses) x.at words stores a
touched-word t x words a stores h l = by h.number refl
  where
    by : (n : ℕ) → h.number ≡ n → IsWordBelow (block_of t x).accesses (length (block_of t x).accesses) x.at words stores a
    by zero e = absurd (let f : None ≡ Some h.access = sym (ap (access_at (block_of t x)) e) ∙ h.is in cc)
    by (suc n) e =
        let f : slice_get (block_of t x).accesses n ≡ Some h.access = sym (ap (access_at (block_of t x)) e) ∙ h.is in
        record { place = n; access = h.access; below = slice_get_within (block_of t x).accesses n h.access f; is = f; word = record { kind = h.kind; expected = h.expected; word = l } }

pub reads-list : (t : Table) (x : Instance) (words : ℕ) (xs ys : List ℕ) → HasWords (block_of t x).accesses (length (block_of t x).accesses) x.at words false xs
    → IsStrictlyIncreasing ys → ((a : ℕ) → Contains ys a ↔ Contains xs a) → IsListOf (Reads t (pos words) x) ys
reads-list t x words xs ys h rising same = record {
  rising = rising;
  has = λ a. (λ k. read-word t x words a ((h a).0 ((same a).0 k)), λ r. (same a).1 ((h a).1 (touched-word t x words a false r.0 (let l = r.2 in omega (arith, ints)))));
}

pub writes-list : (t : Table) (x : Instance) (words : ℕ) (xs ys : List ℕ) → ((a : ℤ) → Writes t x a → (pos 0 ≤ℤ a) × (a <ℤ pos words)) → HasWords (block_of t x).accesses (length (block_of t x).accesses) x.at words true xs
    → IsStrictlyIncreasing ys → ((a : ℕ) → Contains ys a ↔ Contains xs a) → IsListOf (Writes t x) ys
writes-list t x words xs ys all h rising same = record {
  rising = rising;
  has = λ a. (λ k. write-word t x words a ((h a).0 ((same a).0 k)), λ r. (same a).1 ((h a).1 (touched-word t x words a true r (let l = (all (pos a) r).1 in omega (arith, ints)))));
}
