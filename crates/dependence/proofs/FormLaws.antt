-- Forms that are made number by number, and how large their numbers are.
use Rattle.std.proofs.Common.{◌≡◌, refl, sym, ap, ap₂, ◌∙◌, subst, ℕ, zero, suc, ◌<◌, ◌≤◌, ◌+◌, ◌*◌, ◌^◌, ℤ, pos, ◌+ℤ◌, ◌*ℤ◌, unsigned_abs, List, [], ◌∷◌, length, get_or, drop, drop-cons, ◌-◌, map, FitsSigned, to_z, of_z, w64, Bool, true, false, ◌&&◌, nat_lt, nat_eq, lt-ltb, lit≤, arith}
use Rattle.std.specs.Prelude.{if◌then◌else◌}
use Rattle.std.specs.Int.{w128}
use Rattle.std.proofs.Math.Nat.{mul-le-mul}
use Rattle.std.proofs.lemmas.Int.{to_z-of_z, unsigned_abs-mul}
use Rattle.std.proofs.lemmas.List.{ext_get_or, get_or-map, length-map}
use Rattle.plain_lemmas.proofs.IntegerLaws.{unsigned_abs-add}
use Rattle.std.proofs.lemmas.Bool.Decides.{nat_tests}
use Rattle.affine.specs.Forms.{Affine}
use Rattle.domain.specs.Tables.{Table, Block, counters, depth, is_post, trip_form, zero_form}
use Rattle.dependence.specs.Systems.{counter_form, place_form}
use Rattle.std.specs.List.{range_with_len}
use Rattle.dependence.specs.Legality.{plus, combined}
use Rattle.dependence.specs.Terms.{IsShort}

-- ---- a product and a sum

pub product-size : (f n : ℤ) → unsigned_abs f ≤ 2 ^ 20 → unsigned_abs n ≤ 2 ^ 63 → unsigned_abs (f *ℤ n) ≤ 2 ^ 83
product-size f n a b =
    let m = mul-le-mul a b in
    let e = unsigned_abs-mul f n in
    let l : 2 ^ 20 * 2 ^ 63 ≤ 2 ^ 83 = lit≤ tt in
    omega (arith, m, e, l)

pub product_plus-size : (f n s : ℤ) → unsigned_abs f ≤ 2 ^ 20 → unsigned_abs n ≤ 2 ^ 63 → unsigned_abs (f *ℤ n +ℤ s) ≤ 2 ^ 83 + unsigned_abs s
product_plus-size f n s a b = let p = product-size f n a b in let e = unsigned_abs-add (f *ℤ n) s in omega (arith, p, e)

-- as it is computed, where each part fits
pub computed : (f n s a : ℤ) → a ≡ to_z w64 (of_z w64 f) → FitsSigned w64 f → FitsSigned w128 f → FitsSigned w128 n → FitsSigned w128 s → FitsSigned w128 (f *ℤ n) → FitsSigned w128 (f *ℤ n +ℤ s)
    → to_z w128 (of_z w128 (to_z w128 (of_z w128 (to_z w128 (of_z w128 a) *ℤ to_z w128 (of_z w128 n))) +ℤ to_z w128 (of_z w128 s))) ≡ f *ℤ n +ℤ s
computed f n s a e f64 f128 n128 s128 p128 r128 = rw e (simp to_z-of_z)

-- ---- the sum of two lists

pub length-plus : (xs ys : List ℤ) → length xs ≡ length ys → length (plus xs ys) ≡ length ys
length-plus [] ys e = refl
length-plus (x ∷ xs) [] e = e
length-plus (x ∷ xs) (y ∷ ys) e = ap suc (length-plus xs ys (omega arith))

pub get_or-plus : (xs ys : List ℤ) (k : ℕ) → length xs ≡ length ys → k < length ys → get_or (plus xs ys) k (pos 0) ≡ get_or xs k (pos 0) +ℤ get_or ys k (pos 0)
get_or-plus [] ys k e l = absurd (omega arith)
get_or-plus (x ∷ xs) [] k e l = absurd (omega arith)
get_or-plus (x ∷ xs) (y ∷ ys) zero e l = refl
get_or-plus (x ∷ xs) (y ∷ ys) (suc k) e l = get_or-plus xs ys k (omega arith) (omega arith)

-- a list that has at each place m times a number of the one and a number of the other
pub times-plus-is : (m : ℤ) (zs xs ys : List ℤ) → length zs ≡ length ys → length xs ≡ length ys
    → ((k : ℕ) → k < length ys → get_or zs k (pos 0) ≡ m *ℤ get_or xs k (pos 0) +ℤ get_or ys k (pos 0)) → zs ≡ plus (map (λ c. m *ℤ c) xs) ys
times-plus-is m zs xs ys e f h =
    let long = length-map xs (λ c. m *ℤ c) in
    let same : length (map (λ c. m *ℤ c) xs) ≡ length ys = omega (arith, long, f) in
    ext_get_or (pos 0) zs (plus (map (λ c. m *ℤ c) xs) ys) (e ∙ sym (length-plus (map (λ c. m *ℤ c) xs) ys same))
    (λ k l. h k (omega (arith, e, l)) ∙ ap (λ (z : ℤ). z +ℤ get_or ys k (pos 0)) (sym (get_or-map (λ c. m *ℤ c) xs k (pos 0) (pos 0) (omega (arith, e, f, l)))) ∙ sym (get_or-plus (map (λ c. m *ℤ c) xs) ys k same (omega (arith, e, l))))

-- ---- forms

abbrev pub form_of : List ℤ → ℤ → Affine
form_of coef cst = record { coef = coef; cst = cst }

pub same-form : (xs ys : List ℤ) (a b : ℤ) → xs ≡ ys → a ≡ b → form_of xs a ≡ form_of ys b
same-form xs ys a b e f = ap₂ form_of e f

-- the place before the end of the counters, after it, and at it
pub place-counter : (t : Table) (b : Block) (k : ℕ) → k < counters t b → place_form t b k ≡ counter_form (depth t) k
place-counter t b k l = rw (lt-ltb k (counters t b) l) refl

no-less : (k n : ℕ) → n ≤ k → nat_lt k n ≡ false
no-less k n l = grind (arith, nat_tests)

not-same : (k n : ℕ) → n < k → nat_eq k n ≡ false
not-same k n l = grind (arith, nat_tests)

all-same : (k n : ℕ) → k ≡ n → nat_eq k n ≡ true
all-same k n e = grind (arith, nat_tests)

and-false : (w : Bool) → (w && false) ≡ false
and-false true = refl
and-false false = refl

and-true : (w : Bool) → (w && true) ≡ w
and-true true = refl
and-true false = refl

pub place-past : (t : Table) (b : Block) (k : ℕ) → counters t b < k → place_form t b k ≡ zero_form (depth t)
place-past t b k l = rw (no-less k (counters t b) (omega arith), not-same k (counters t b) l, and-false (is_post b.part)) refl

pub place-after : (t : Table) (b : Block) (k : ℕ) → k ≡ counters t b → place_form t b k ≡ (if is_post b.part then trip_form t k else zero_form (depth t))
place-after t b k e = rw (no-less k (counters t b) (omega arith), all-same k (counters t b) e, and-true (is_post b.part)) refl

-- ---- sums of multiples of forms, from the last one on

combined-more : (n : ℕ) (row : List ℤ) (F : ℕ → Affine) (k rest : ℕ) → k < length row
    → combined n (drop k row) (map F (range_with_len k (suc rest)))
    ≡ form_of (plus (map (λ c. get_or row k (pos 0) *ℤ c) (F k).coef) (combined n (drop (suc k) row) (map F (range_with_len (k + 1) rest))).coef) (get_or row k (pos 0) *ℤ (F k).cst +ℤ (combined n (drop (suc k) row) (map F (range_with_len (k + 1) rest))).cst)
combined-more n row F k rest l = rw (drop-cons row k (pos 0)) refl

pub row-step : (n : ℕ) (row : List ℤ) (F : ℕ → Affine) (p : ℕ) (here sum result : Affine) → 1 ≤ p → p ≤ n → n ≡ length row → here ≡ F (p - 1)
    → sum ≡ combined n (drop p row) (map F (range_with_len p (n - p)))
    → result ≡ form_of (plus (map (λ c. get_or row (p - 1) (pos 0) *ℤ c) here.coef) sum.coef) (get_or row (p - 1) (pos 0) *ℤ here.cst +ℤ sum.cst)
    → result ≡ combined n (drop (p - 1) row) (map F (range_with_len (p - 1) (n - (p - 1))))
row-step n row F zero here sum result some most same e f g = absurd (omega arith)
row-step n row F (suc k) here sum result some most same e f g =
    let back : suc k - 1 ≡ k = omega arith in
    let count : n - k ≡ suc (n - suc k) = omega arith in
    let next : k + 1 ≡ suc k = omega arith in
    let h : here ≡ F k = rw back at e in
    let r = rw back at g in
    rw (back, count) (r
    ∙ ap₂ (λ (p q : Affine). form_of (plus (map (λ c. get_or row k (pos 0) *ℤ c) p.coef) q.coef) (get_or row k (pos 0) *ℤ p.cst +ℤ q.cst)) h
    (f ∙ ap (λ (i : ℕ). combined n (drop (suc k) row) (map F (range_with_len i (n - suc k)))) (sym next))
    ∙ sym (combined-more n row F k (n - suc k) (omega arith)))

-- one multiple more
pub short-step : (D p : ℕ) (f : Affine) → 1 ≤ p → p ≤ D → IsShort (2 ^ 83 + (D - p) * 2 ^ 83) f → IsShort ((D - (p - 1)) * 2 ^ 83) f
short-step D p f some most h = let e : 2 ^ 83 + (D - p) * 2 ^ 83 ≡ (D - (p - 1)) * 2 ^ 83 = omega arith in subst (λ (n : ℕ). IsShort n f) e h
