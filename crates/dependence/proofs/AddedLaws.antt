-- Rows that are added one after another, and narrow terms.
use Rattle.std.proofs.Common.{◌≡◌, refl, sym, ap, ◌∙◌, subst, ℕ, zero, suc, ◌+◌, ◌<◌, ◌≤◌, ◌-◌, ◌^◌, ◌⊎◌, inl, inr, ⊎_elim, ℤ, pos, ◌-ℤ◌, ◌+ℤ◌, negsuc, FitsSigned, to_z, of_z, w64, unsigned_abs, map, List, [], ◌∷◌, ◌++◌, length, get_or, append_assoc, append-nil, false, nat_lt, lt-ltb, le_trans, lit≤, arith}
use Rattle.std.proofs.lemmas.Bool.{cases_lt}
use Rattle.std.specs.Int.{w128}
use Rattle.std.specs.Int.Signed.{nat_abs-le}
use Rattle.std.proofs.Math.Facts.{sfits_widen}
use Rattle.std.proofs.lemmas.Int.{ints, fits_signed_from_abs, to_z-of_z}
use Rattle.plain_lemmas.proofs.IntegerLaws.{unsigned_abs-add}
use Rattle.std.proofs.lemmas.List.{map-append}
use Rattle.std.proofs.lemmas.List.Elements.{All-weaker}
use Rattle.std.specs.List.{range_with_len, flat_map}
use Rattle.affine.specs.declared.row.Row.{Row}
use Rattle.affine.specs.Forms.{Affine, AllWithinSize}
use Rattle.std.proofs.lemmas.Bool.Decides.{nat_tests}
use Rattle.domain.specs.Tables.{Table, Block, Access, depth, form_or_zero}
use Rattle.dependence.specs.Systems.{counter_form, equal, equal_place, first_counter, greatest, inner_counter, meeting, place_form, rising_place, shifted}
use Rattle.dependence.specs.Comparisons.{Term, Number, Turn, AtX, AtY, AtMost, at_most}
use Rattle.dependence.specs.Terms.{IsNarrow, IsShort, at_member}
use Rattle.dependence.specs.declared.rows.Member.{Member}
use Rattle.dependence.specs.declared.rows.Member.TheVariants.{X, Y}

-- ---- narrow terms

past-end : (xs : List ℤ) (k : ℕ) → length xs ≤ k → get_or xs k (pos 0) ≡ pos 0
past-end [] k h = refl
past-end (x ∷ xs) zero h = absurd (omega arith)
past-end (x ∷ xs) (suc k) h = past-end xs k (omega arith)

small-at : (most : ℕ) (xs : List ℤ) → AllWithinSize most xs → (k : ℕ) → unsigned_abs (get_or xs k (pos 0)) ≤ most
small-at most xs h k = ⊎_elim (λ l. h k (pos 0) l) (λ l. rw (past-end xs k l) (omega arith)) (cases_lt k (length xs))

pub narrow-number : (n : ℤ) → unsigned_abs n ≤ 2 ^ 99 → IsNarrow (Number n)
narrow-number n h = record { x = λ k. lit≤ tt; y = λ k. lit≤ tt; alone = h }

pub narrow-turn : (n : ℤ) → unsigned_abs n ≤ 2 ^ 99 → IsNarrow (Turn n)
narrow-turn n h = record { x = λ k. lit≤ tt; y = λ k. lit≤ tt; alone = h }

pub narrow-x : (f : Affine) → IsShort (2 ^ 99) f → IsNarrow (AtX f)
narrow-x f h = record { x = small-at (2 ^ 99) f.coef h.coef; y = λ k. lit≤ tt; alone = h.cst }

pub narrow-y : (f : Affine) → IsShort (2 ^ 99) f → IsNarrow (AtY f)
narrow-y f h = record { x = λ k. lit≤ tt; y = small-at (2 ^ 99) f.coef h.coef; alone = h.cst }

pub narrow-member : (m : Member) (f : Affine) (p : Term) → p ≡ at_member m f → IsShort (2 ^ 99) f → IsNarrow p
narrow-member X f p e h = subst IsNarrow (sym e) (narrow-x f h)
narrow-member Y f p e h = subst IsNarrow (sym e) (narrow-y f h)

pub wider : (a b : ℕ) (f : Affine) → a ≤ b → IsShort a f → IsShort b f
wider a b f l h = record {
  coef = All-weaker (λ (z : ℤ). unsigned_abs z ≤ a) (λ (z : ℤ). unsigned_abs z ≤ b) (λ z k. le_trans k l) f.coef h.coef;
  cst = le_trans h.cst l;
}

-- ---- lists that grow

pub flat-more : {X : Type 0} (f : ℕ → List X) (a n : ℕ) → flat_map f (range_with_len a (suc n)) ≡ flat_map f (range_with_len a n) ++ f (a + n)
flat-more f a zero = let e : a ≡ a + 0 = omega arith in append-nil (f a) ∙ ap f e
flat-more {X} f a (suc n) =
    let e : a + 1 + n ≡ a + suc n = omega arith in
    ap (λ (xs : List X). f a ++ xs) (flat-more f (a + 1) n) ∙ sym (append_assoc (f a) (flat_map f (range_with_len (a + 1) n)) (f (a + 1 + n))) ∙ ap (λ k. flat_map f (range_with_len a (suc n)) ++ f k) e

-- one more of a range from a, as a list of what h makes of it
pub more-of-range : {X Z : Type 0} (old before after : List Z) (h : X → Z) (f : ℕ → List X) (a k : ℕ) (more : List X) → a ≤ k
    → before ≡ old ++ map h (flat_map f (range_with_len a (k - a))) → after ≡ before ++ map h more → f k ≡ more
    → after ≡ old ++ map h (flat_map f (range_with_len a (k + 1 - a)))
more-of-range {X} {Z} old before after h f a k more from e g is =
    let next : k + 1 - a ≡ suc (k - a) = omega arith in
    let here : a + (k - a) ≡ k = omega arith in
    let front = flat_map f (range_with_len a (k - a)) in
    let grown : flat_map f (range_with_len a (suc (k - a))) ≡ front ++ more = flat-more f a (k - a) ∙ ap (λ m. front ++ f m) here ∙ ap (λ (xs : List X). front ++ xs) is in
    g
    ∙ ap (λ (xs : List Z). xs ++ map h more) e
    ∙ append_assoc old (map h front) (map h more)
    ∙ ap (λ (xs : List Z). old ++ xs) (sym (map-append h front more) ∙ ap (map h) (sym grown) ∙ ap (λ m. map h (flat_map f (range_with_len a m))) (sym next))

pub two-more : {Z : Type 0} (a b c : List Z) (x y : Z) → b ≡ a ++ x ∷ [] → c ≡ b ++ y ∷ [] → c ≡ a ++ x ∷ y ∷ []
two-more {Z} a b c x y e f = f ∙ ap (λ (xs : List Z). xs ++ y ∷ []) e ∙ append_assoc a (x ∷ []) (y ∷ [])

pub none-more : {Z : Type 0} (a b : List Z) → b ≡ a → b ≡ a ++ []
none-more a b e = e ∙ sym (append-nil a)

pub below-seven : (n : ℕ) → n ≤ 6 → n < 7
below-seven n h = omega arith

-- ---- the parts of a system

pub meeting-is : (h : AtMost → Row) (n : ℕ) (a b : Access) (x y p q r s : Affine) → x ≡ form_or_zero n a.line → y ≡ form_or_zero n b.line → p ≡ shifted a.low x → q ≡ shifted b.high y → r ≡ shifted b.low y → s ≡ shifted a.high x
    → h (at_most (AtX p) (AtY q)) ∷ h (at_most (AtY r) (AtX s)) ∷ [] ≡ map h (meeting n a b)
meeting-is h n a b x y p q r s e f g i j k = rw (g, i, j, k, e, f) refl

pub inner_counter-is : (t : Table) (b : Block) (m : Member) (D k : ℕ) (x y : Affine) (p q : Term) → depth t ≡ D → x ≡ counter_form D k → y ≡ greatest t b k → p ≡ at_member m x → q ≡ at_member m y
    → inner_counter t b (at_member m) k ≡ at_most (Number (pos 0)) p ∷ at_most p q ∷ []
inner_counter-is t b m D k x y p q deep e f g h = let i : x ≡ counter_form (depth t) k = e ∙ ap (λ n. counter_form n k) (sym deep) in rw (g, h, i, f) refl

pub first_counter-is : (h : AtMost → Row) (t : Table) (L : ℤ) (m : Member) (D : ℕ) (x : Affine) (p : Term) (l : ℤ) → depth t ≡ D → x ≡ counter_form D 0 → p ≡ at_member m x → l ≡ L -ℤ pos 1
    → h (at_most (Turn (pos 0)) p) ∷ h (at_most p (Turn l)) ∷ [] ≡ map h (first_counter t L (at_member m))
first_counter-is h t L m D x p l deep e f g = rw (deep, f, e, g) refl

pub equal_place-is : (t : Table) (a b : Block) (k : ℕ) (x y : Affine) → x ≡ place_form t a k → y ≡ place_form t b k → equal_place t a b k ≡ equal (AtX x) (AtY y)
equal_place-is t a b k x y e f = rw (e, f) refl

pub rising_place-is : (h : AtMost → Row) (t : Table) (a b : Block) (k : ℕ) (x y p : Affine) → k < depth t → x ≡ place_form t a k → y ≡ place_form t b k → p ≡ shifted (pos 1) x → h (at_most (AtX p) (AtY y)) ∷ [] ≡ map h (rising_place t a b k)
rising_place-is h t a b k x y p l e f g = rw (lt-ltb k (depth t) l, g, e, f) refl

pub rising_place-none : (h : AtMost → Row) (t : Table) (a b : Block) (k : ℕ) → depth t ≤ k → map h (rising_place t a b k) ≡ []
rising_place-none h t a b k l = let e : nat_lt k (depth t) ≡ false = grind (arith, nat_tests) in rw e refl

-- ---- a length less 1, as it is computed

pub one-less-size : (L : ℤ) → FitsSigned w64 L → unsigned_abs (L -ℤ pos 1) ≤ 2 ^ 99
one-less-size L h = let s = nat_abs-le L h.sfits in let e = unsigned_abs-add L (negsuc 0) in let f : unsigned_abs (negsuc 0) ≡ 1 = refl in let g : L -ℤ pos 1 ≡ L +ℤ negsuc 0 = omega (arith, ints) in rw g (omega (arith, s, e, f))

pub one-less : (L a : ℤ) → a ≡ to_z w64 (of_z w64 L) → FitsSigned w64 L → to_z w128 (of_z w128 (to_z w128 (of_z w128 a) -ℤ pos 1)) ≡ L -ℤ pos 1
one-less L a e h =
    let wide : FitsSigned w128 L = sfits_widen tt h in
    let less : FitsSigned w128 (L -ℤ pos 1) = fits_signed_from_abs w128 (L -ℤ pos 1) (let s = one-less-size L h in omega (arith, s)) in
    rw e (simp to_z-of_z)

-- where a loop from 1 to an end that may be 0 stops
pub ended : (k n : ℕ) → 1 ≤ k → n ≤ k → (k ≤ 1) ⊎ (k ≤ n) → k - 1 ≡ n - 1
ended k n from done (inl l) = omega arith
ended k n from done (inr l) = omega arith
