-- Words of strips, as they are gathered in lists.
use Rattle.std.proofs.Common.{◌≡◌, refl, sym, ap, ◌∙◌, subst, ℕ, zero, suc, ◌<◌, ◌≤◌, ◌+◌, ℤ, pos, ◌≤ℤ◌, ◌<ℤ◌, Option, Some, None, List, [], ◌∷◌, ◌++◌, map, take, length, get_or, ◌⊎◌, inl, inr, ⊎_elim, arith, append_assoc}
use Rattle.std.specs.Prelude.{◌↔◌, Contains}
use Rattle.std.specs.List.{flat_map, range_with_len}
use Rattle.std.specs.List.Sorted.{IsStrictlyIncreasing}
use Rattle.std.proofs.lemmas.Bool.{cases_lt}
use Rattle.std.proofs.lemmas.Grind.{flat_map-append}
use Rattle.std.proofs.lemmas.Int.{ints}
use Rattle.std.proofs.lemmas.List.{append-nil, map-append, take_all, take_more}
use Rattle.std.proofs.lemmas.List.Elements.{Contains-append_left, Contains-append_right, Contains-append_cases}
use Rattle.std.proofs.lemmas.List.FromFn.{map-range_with_len_more}
use Rattle.affine.specs.Forms.{Affine}
use Rattle.plain_lemmas.specs.Lists.{Has}
use Rattle.plain_lemmas.proofs.MembershipLaws.{contains-from-has, has-cases, has-from-contains, has-left, has-right}
use Rattle.domain.specs.Footprints.{Gains}
use Rattle.domain.specs.Tables.{Access}
use Rattle.domain.proofs.TouchedLaws.{gains-none, gains-same}
use Rattle.tiles.specs.declared.stripe.Stripe.{Stripe}
use Rattle.skeletons.specs.Runs.{Run}
use Rattle.tiles.specs.declared.strip.Strip.{Strip}
use Rattle.tiles.specs.Strips.{IsListOfWords, IsWordOf, access_strips, address_at, line_strips, offset_at, offset_count, run_strip, strip_of}

-- ---- one strip

-- a word at one of the first n addresses
pub record IsWordBelow (words : ℕ) (s : Strip) (n : ℕ) (address : ℕ) : Type 0 where
  pub place : ℕ
  pub below : place < n
  pub is : pos address ≡ address_at s place
  pub word : address < words

pub below-none : (words : ℕ) (s : Strip) (xs : List ℕ) → Gains (IsWordBelow words s 0) xs xs
below-none words s xs = gains-none (IsWordBelow words s 0) xs (λ a w. let b = w.below in omega arith)

more : (words : ℕ) (s : Strip) (n a : ℕ) → IsWordBelow words s n a → IsWordBelow words s (n + 1) a
more words s n a w = record { place = w.place; below = (let b = w.below in omega arith); is = w.is; word = w.word }

-- an address that is a word, and one that isn't
pub gains-word : (words : ℕ) (address : ℤ) (number : ℕ) (ys : List ℕ) → pos number ≡ address → number < words → Gains (λ a. (pos a ≡ address) × (a < words)) ys (ys ++ number ∷ [])
gains-word words address number ys is inside a = (
  λ c. ⊎_elim inl
      (λ k. ⊎_elim (λ e. inr (ap pos e ∙ is, omega (arith, inside, e))) (λ z. absurd z) (has-from-contains (number ∷ []) a k))
      (Contains-append_cases ys (number ∷ []) a c),
  λ h. ⊎_elim
      (λ k. Contains-append_left ys (number ∷ []) a k)
      (λ w. let same : pos a ≡ pos number = w.0 ∙ sym is in let f : a ≡ number = omega (arith, ints, same) in Contains-append_right ys (number ∷ []) a (contains-from-has (number ∷ []) a (inl f)))
      h,
)

pub gains-no_word : (words : ℕ) (address : ℤ) (ys : List ℕ) → (pos 0 ≤ℤ address → address <ℤ pos words → ⊥) → Gains (λ a. (pos a ≡ address) × (a < words)) ys ys
gains-no_word words address ys none = gains-none (λ a. (pos a ≡ address) × (a < words)) ys (λ a w. let is = w.0 in let inside = w.1 in none (omega (arith, ints, is)) (omega (arith, ints, is, inside)))

pub below-more : (words : ℕ) (s : Strip) (n : ℕ) (address : ℤ) (xs ys zs : List ℕ) → address ≡ address_at s n
    → Gains (IsWordBelow words s n) xs ys → Gains (λ a. (pos a ≡ address) × (a < words)) ys zs → Gains (IsWordBelow words s (n + 1)) xs zs
below-more words s n address xs ys zs at first second a = (
  λ c. ⊎_elim
      (λ k. ⊎_elim inl (λ w. inr (more words s n a w)) ((first a).0 k))
      (λ w. inr (record { place = n; below = omega arith; is = w.0 ∙ at; word = w.1 }))
      ((second a).0 c),
  λ h. (second a).1 (⊎_elim (λ k. inl ((first a).1 (inl k))) (λ w. ⊎_elim
      (λ l. inl ((first a).1 (inr (record { place = w.place; below = l; is = w.is; word = w.word }))))
      (λ l. let b = w.below in let e : w.place ≡ n = omega (arith, b, l) in inr (w.is ∙ ap (address_at s) e ∙ sym at, w.word))
      (cases_lt w.place n)) h),
)

pub below-all : (words : ℕ) (s : Strip) (n : ℕ) (xs ys : List ℕ) → n ≡ s.count → Gains (IsWordBelow words s n) xs ys → Gains (IsWordOf words (s ∷ [])) xs ys
below-all words s n xs ys end g = gains-same (IsWordBelow words s n) (IsWordOf words (s ∷ [])) xs ys (λ a. (
  λ w. record { strip = s; has = inl refl; place = w.place; below = (let b = w.below in omega (arith, b, end)); is = w.is; word = w.word },
  λ w. ⊎_elim
      (λ e. record { place = w.place; below = (let b = w.below in let c = ap (λ (z : Strip). z.count) e in omega (arith, b, c, end)); is = w.is ∙ ap (λ (z : Strip). address_at z w.place) e; word = w.word })
      (λ z. absurd z)
      w.has,
)) g

-- ---- some strips

word-left : (words : ℕ) (us vs : List Strip) (a : ℕ) → IsWordOf words us a → IsWordOf words (us ++ vs) a
word-left words us vs a w = record { strip = w.strip; has = has-left us vs w.strip w.has; place = w.place; below = w.below; is = w.is; word = w.word }

word-right : (words : ℕ) (us vs : List Strip) (a : ℕ) → IsWordOf words vs a → IsWordOf words (us ++ vs) a
word-right words us vs a w = record { strip = w.strip; has = has-right us vs w.strip w.has; place = w.place; below = w.below; is = w.is; word = w.word }

word-cases : (words : ℕ) (us vs : List Strip) (a : ℕ) → IsWordOf words (us ++ vs) a → IsWordOf words us a ⊎ IsWordOf words vs a
word-cases words us vs a w = ⊎_elim
    (λ h. inl (record { strip = w.strip; has = h; place = w.place; below = w.below; is = w.is; word = w.word }))
    (λ h. inr (record { strip = w.strip; has = h; place = w.place; below = w.below; is = w.is; word = w.word }))
    (has-cases us vs w.strip w.has)

pub words-none : (words : ℕ) (xs : List ℕ) → Gains (IsWordOf words []) xs xs
words-none words xs = gains-none (IsWordOf words []) xs (λ a w. w.has)

pub words-append : (words : ℕ) (us vs : List Strip) (xs ys zs : List ℕ) → Gains (IsWordOf words us) xs ys → Gains (IsWordOf words vs) ys zs → Gains (IsWordOf words (us ++ vs)) xs zs
words-append words us vs xs ys zs first second a = (
  λ c. ⊎_elim (λ k. ⊎_elim inl (λ w. inr (word-left words us vs a w)) ((first a).0 k)) (λ w. inr (word-right words us vs a w)) ((second a).0 c),
  λ h. (second a).1 (⊎_elim (λ k. inl ((first a).1 (inl k))) (λ w. ⊎_elim (λ u. inl ((first a).1 (inr u))) inr (word-cases words us vs a w)) h),
)

-- one strip more, of those that a function of a number gives
pub words-range : (words : ℕ) (f : ℕ → Strip) (n : ℕ) (xs ys zs : List ℕ) → Gains (IsWordOf words (map f (range_with_len 0 n))) xs ys → Gains (IsWordOf words (f n ∷ [])) ys zs → Gains (IsWordOf words (map f (range_with_len 0 (n + 1)))) xs zs
words-range words f n xs ys zs first second =
    subst (λ (l : List Strip). Gains (IsWordOf words l) xs zs) (sym (map-range_with_len_more f 0 n n (omega arith))) (words-append words (map f (range_with_len 0 n)) (f n ∷ []) xs ys zs first second)

pub flat-more : {X Y : Type 0} (f : X → List Y) (all : List X) (n : ℕ) (x : X) → n < length all → x ≡ get_or all n x → flat_map f (take (n + 1) all) ≡ flat_map f (take n all) ++ f x
flat-more {X} f all n x inside is =
    ap (flat_map f) (take_more all n x inside ∙ ap (λ (y : X). take n all ++ y ∷ []) (sym is))
    ∙ flat_map-append f (take n all) (x ∷ [])
    ∙ ap (λ l. flat_map f (take n all) ++ l) (append-nil (f x))

pub flat-all : {X Y : Type 0} (f : X → List Y) (all : List X) (n : ℕ) → length all ≤ n → flat_map f (take n all) ≡ flat_map f all
flat-all f all n end = ap (flat_map f) (take_all n all end)

pub get_or-has : {X : Type 0} (xs : List X) (n : ℕ) (x : X) → n < length xs → x ≡ get_or xs n x → Has xs x
get_or-has [] n x inside is = absurd (omega arith)
get_or-has (y ∷ xs) zero x inside is = inl is
get_or-has (y ∷ xs) (suc n) x inside is = inr (get_or-has xs n x (omega arith) is)

-- the strips of one element more
pub words-more : {X : Type 0} (words : ℕ) (f : X → List Strip) (all : List X) (n : ℕ) (x : X) (xs ys zs : List ℕ) → n < length all → x ≡ get_or all n x
    → Gains (IsWordOf words (flat_map f (take n all))) xs ys → Gains (IsWordOf words (f x)) ys zs → Gains (IsWordOf words (flat_map f (take (n + 1) all))) xs zs
words-more {X} words f all n x xs ys zs inside is first second =
    subst (λ (l : List Strip). Gains (IsWordOf words l) xs zs) (sym (flat-more f all n x inside is))
    (words-append words (flat_map f (take n all)) (f x) xs ys zs first second)

-- a list that has gained words from nothing, in order
pub words-list : (words : ℕ) (strips : List Strip) (xs ys : List ℕ) → Gains (IsWordOf words strips) [] xs → IsStrictlyIncreasing ys → ((a : ℕ) → Contains ys a ↔ Contains xs a) → IsListOfWords words strips ys
words-list words strips xs ys g rising same = record {
  rising = rising;
  has = λ a. (
    λ c. ⊎_elim (λ k. absurd (has-from-contains [] a k)) (λ w. w) ((g a).0 ((same a).0 c)),
    λ w. (same a).1 ((g a).1 (inr w)),
  );
}

-- ---- the strips of an access

map-map : {X Y Z : Type 0} (f : Y → Z) (h : X → Y) (xs : List X) → map f (map h xs) ≡ map (λ x. f (h x)) xs
map-map f h [] = refl
map-map f h (x ∷ xs) = ap (λ zs. f (h x) ∷ zs) (map-map f h xs)

pub strips-some : (r : Run) (a : Access) (form : Affine) → a.line ≡ Some form → access_strips r a ≡ map (λ k. run_strip r form (offset_at a k)) (range_with_len 0 (offset_count a))
strips-some r a form line = ap (λ (o : Option Affine). line_strips r o (map (offset_at a) (range_with_len 0 (offset_count a)))) line ∙ map-map (run_strip r form) (offset_at a) (range_with_len 0 (offset_count a))

pub strips-no-line : (r : Run) (a : Access) → a.line ≡ None → access_strips r a ≡ []
strips-no-line r a line = ap (λ (o : Option Affine). line_strips r o (map (offset_at a) (range_with_len 0 (offset_count a)))) line

-- ---- stripes

pub stripes-push : (stripes : List Stripe) (stripe : Stripe) (front strips : List Strip) (s : Strip) → strip_of stripe ≡ s → map strip_of stripes ≡ front ++ strips → map strip_of (stripes ++ stripe ∷ []) ≡ front ++ (strips ++ s ∷ [])
stripes-push stripes stripe front strips s one all =
    map-append strip_of stripes (stripe ∷ [])
    ∙ ap (λ (l : List Strip). l ++ strip_of stripe ∷ []) all
    ∙ ap (λ (z : Strip). (front ++ strips) ++ z ∷ []) one
    ∙ append_assoc front strips (s ∷ [])

pub strips-append : (front us vs : List Strip) (before after : List Strip) → before ≡ front ++ us → after ≡ before ++ vs → after ≡ front ++ (us ++ vs)
strips-append front us vs before after first second = second ∙ ap (λ (l : List Strip). l ++ vs) first ∙ append_assoc front us vs
