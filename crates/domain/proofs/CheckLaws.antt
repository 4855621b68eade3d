-- The checks of an instance, one after another.
use Rattle.std.proofs.Common.{◌≡◌, refl, sym, ap, ◌∙◌, ℕ, zero, suc, ◌<◌, ◌≤◌, ◌+◌, ◌*◌, ◌^◌, ℤ, pos, ◌+ℤ◌, ◌-ℤ◌, ◌*ℤ◌, unsigned_abs, Bool, true, false, Option, Some, None, List, [], ◌∷◌, length, get_or, drop, FitsSigned, w64, to_z, of_z, max, lit≤, le_trans, subst, mul-le-mul_left, arith}
use Rattle.std.specs.Prelude.{is_some, if◌then◌else◌}
use Rattle.std.specs.Int.{w128}
use Rattle.std.specs.List.{All}
use Rattle.std.proofs.lemmas.Int.{ints, to_z-of_z, unsigned_abs-mul}
use Rattle.std.proofs.lemmas.List.{drop_more, drop_all}
use Rattle.std.proofs.lemmas.List.Elements.{All-head, All-tail, All-cons}
use Rattle.std.proofs.Math.Nat.{mul-le-mul, mul-le-mul_right}
use Rattle.affine.specs.Forms.{Affine, value_at, AllWithinSize}
use Rattle.affine.specs.Sums.{dot}
use Rattle.affine.proofs.SumLaws.{abs-dot}
use Rattle.plain_lemmas.proofs.IntegerLaws.{unsigned_abs-add}
use Rattle.domain.specs.declared.held.HeldWhy.{HeldWhy}
use Rattle.domain.specs.Tables.{Access, Table, level_at, cut, trip, Reaches, stride_size}
use Rattle.domain.specs.declared.table.LoopKind.{LoopKind}
use Rattle.domain.specs.declared.table.LoopKind.TheVariants.{For, While}
use Rattle.domain.proofs.PointLaws.{trip-some, trip-none}
use Rattle.domain.specs.Launches.{first_of, line_failure, scalar_failure, scalars_failure, store_failure, stores_failure}

-- the last value as it is computed, where each part fits
pub last-computed : (l s r a : ℤ) → a ≡ to_z w64 (of_z w64 s) → FitsSigned w64 s → FitsSigned w128 s → FitsSigned w128 l → FitsSigned w128 r → FitsSigned w128 (r -ℤ pos 1) → FitsSigned w128 (s *ℤ (r -ℤ pos 1)) → FitsSigned w128 (l +ℤ s *ℤ (r -ℤ pos 1))
    → to_z w128 (of_z w128 (to_z w128 (of_z w128 l) +ℤ to_z w128 (of_z w128 (to_z w128 (of_z w128 a) *ℤ to_z w128 (of_z w128 (to_z w128 (of_z w128 r) -ℤ pos 1)))))) ≡ l +ℤ s *ℤ (r -ℤ pos 1)
last-computed l s r a d ws wi wl wr wm wp wt = rw d (simp to_z-of_z)

pub last-fits : (l s r a : ℤ) → a ≡ to_z w64 (of_z w64 s) → FitsSigned w64 s → FitsSigned w128 s → FitsSigned w128 l → FitsSigned w128 r → FitsSigned w128 (r -ℤ pos 1) → FitsSigned w128 (s *ℤ (r -ℤ pos 1)) → FitsSigned w128 (l +ℤ s *ℤ (r -ℤ pos 1))
    → FitsSigned w128 (to_z w128 (of_z w128 l) +ℤ to_z w128 (of_z w128 (to_z w128 (of_z w128 a) *ℤ to_z w128 (of_z w128 (to_z w128 (of_z w128 r) -ℤ pos 1)))))
last-fits l s r a d ws wi wl wr wm wp wt = rw d (simp to_z-of_z wt)

-- the size of a form's value
few-times : (n : ℕ) → n < 7 → n * (2 ^ 40 * 2 ^ 33) ≤ 2 ^ 76
few-times n h = omega arith

pub value-size : (form : Affine) (at : List ℤ) → AllWithinSize (2 ^ 40) form.coef → length form.coef < 7 → AllWithinSize (2 ^ 33) at → unsigned_abs form.cst ≤ 2 ^ 63 → unsigned_abs (value_at form at) < 2 ^ 77
value-size form at small few range cst =
    let a = abs-dot form.coef at (2 ^ 40) (2 ^ 33) small range in
    let b = few-times (length form.coef) few in
    let c = unsigned_abs-add (dot form.coef at) form.cst in
    omega arith

-- ---- searches

first-some : (a b : Option HeldWhy) → is_some a ≡ true → first_of a b ≡ a
first-some None b h = absurd (cc)
first-some (Some w) b h = refl

first-none : (a b : Option HeldWhy) → is_some a ≡ false → first_of a b ≡ b
first-none None b h = refl
first-none (Some w) b h = absurd (cc)

module _ (at : List ℤ) (fs : List (Option Affine)) where
  pub scalars-next : (n : ℕ) (f : Option Affine) (found : Option HeldWhy) → n < length fs → f ≡ get_or fs n f → found ≡ scalar_failure n f at → scalars_failure n (drop n fs) at ≡ first_of found (scalars_failure (n + 1) (drop (n + 1) fs) at)
  scalars-next n f found h e g =
      ap (λ (xs : List (Option Affine)). scalars_failure n xs at) (drop_more fs n f h)
      ∙ ap (λ (x : Option Affine). first_of (scalar_failure n x at) (scalars_failure (n + 1) (drop (n + 1) fs) at)) (sym e)
      ∙ ap (λ (x : Option HeldWhy). first_of x (scalars_failure (n + 1) (drop (n + 1) fs) at)) (sym g)

  pub scalars-found : (n : ℕ) (f : Option Affine) (found : Option HeldWhy) → n < length fs → f ≡ get_or fs n f → found ≡ scalar_failure n f at → is_some found ≡ true → scalars_failure n (drop n fs) at ≡ found
  scalars-found n f found h e g some = scalars-next n f found h e g ∙ first-some found (scalars_failure (n + 1) (drop (n + 1) fs) at) some

  pub scalars-more : (n : ℕ) (f : Option Affine) (found : Option HeldWhy) → n < length fs → f ≡ get_or fs n f → found ≡ scalar_failure n f at → is_some found ≡ false → scalars_failure n (drop n fs) at ≡ scalars_failure (n + 1) (drop (n + 1) fs) at
  scalars-more n f found h e g none = scalars-next n f found h e g ∙ first-none found (scalars_failure (n + 1) (drop (n + 1) fs) at) none

  pub scalars-end : (n : ℕ) → length fs ≤ n → scalars_failure n (drop n fs) at ≡ None
  scalars-end n h = ap (λ (xs : List (Option Affine)). scalars_failure n xs at) (drop_all n fs h)

module _ (words : ℤ) (at : List ℤ) (xs : List Access) where
  pub stores-next : (n : ℕ) (a : Access) (found : Option HeldWhy) → n < length xs → a ≡ get_or xs n a → found ≡ store_failure words (n + 1) a at → stores_failure words (n + 1) (drop n xs) at ≡ first_of found (stores_failure words (n + 1 + 1) (drop (n + 1) xs) at)
  stores-next n a found h e g =
      ap (λ (ys : List Access). stores_failure words (n + 1) ys at) (drop_more xs n a h)
      ∙ ap (λ (x : Access). first_of (store_failure words (n + 1) x at) (stores_failure words (n + 1 + 1) (drop (n + 1) xs) at)) (sym e)
      ∙ ap (λ (x : Option HeldWhy). first_of x (stores_failure words (n + 1 + 1) (drop (n + 1) xs) at)) (sym g)

  pub stores-found : (n : ℕ) (a : Access) (found : Option HeldWhy) → n < length xs → a ≡ get_or xs n a → found ≡ store_failure words (n + 1) a at → is_some found ≡ true → stores_failure words (n + 1) (drop n xs) at ≡ found
  stores-found n a found h e g some = stores-next n a found h e g ∙ first-some found (stores_failure words (n + 1 + 1) (drop (n + 1) xs) at) some

  pub stores-more : (n : ℕ) (a : Access) (found : Option HeldWhy) → n < length xs → a ≡ get_or xs n a → found ≡ store_failure words (n + 1) a at → is_some found ≡ false → stores_failure words (n + 1) (drop n xs) at ≡ stores_failure words (n + 1 + 1) (drop (n + 1) xs) at
  stores-more n a found h e g none = stores-next n a found h e g ∙ first-none found (stores_failure words (n + 1 + 1) (drop (n + 1) xs) at) none

  pub stores-end : (n : ℕ) → length xs ≤ n → stores_failure words (n + 1) (drop n xs) at ≡ None
  stores-end n h = ap (λ (ys : List Access). stores_failure words (n + 1) ys at) (drop_all n xs h)

-- the check of a store that has a form
pub store-line : (words : ℤ) (number : ℕ) (a b : Access) (form : Affine) (at : List ℤ) → b ≡ a → b.stores ≡ true → b.line ≡ Some form → line_failure words number (Some form) b.low b.high at ≡ store_failure words number a at
store-line words number a b form at e s l =
    sym (ap (λ (x : Access). store_failure words number x at) (sym e)
    ∙ ap (λ (x : Bool). if x then line_failure words number b.line b.low b.high at else None) s
    ∙ ap (λ (x : Option Affine). line_failure words number x b.low b.high at) l)

-- ---- a stride times a trip

reach-step : (s x y d n : ℕ) → s * x ≤ 2 ^ 66 → y ≤ 2 ^ 33 → s * d ≤ n * 2 ^ 99 → s * (x * y + d) ≤ suc n * 2 ^ 99
reach-step s x y d n h k l =
    let a : (s * x) * y ≤ 2 ^ 66 * 2 ^ 33 = mul-le-mul h k in
    let b : s * (x * y + d) ≡ (s * x) * y + s * d = grind (arith) in
    omega arith

reach-dot : (s : ℕ) (xs ys : List ℤ) → All (λ c. s * unsigned_abs c ≤ 2 ^ 66) xs → AllWithinSize (2 ^ 33) ys → s * unsigned_abs (dot xs ys) ≤ length xs * 2 ^ 99
reach-dot s [] ys h k = omega arith
reach-dot s (x ∷ xs) [] h k = omega arith
reach-dot s (x ∷ xs) (y ∷ ys) h k =
    let rest = reach-dot s xs ys (All-tail (λ c. s * unsigned_abs c ≤ 2 ^ 66) x xs h) (All-tail (λ z. unsigned_abs z ≤ 2 ^ 33) y ys k) in
    let one = reach-step s (unsigned_abs x) (unsigned_abs y) (unsigned_abs (dot xs ys)) (length xs) (All-head (λ c. s * unsigned_abs c ≤ 2 ^ 66) x xs h) (All-head (λ z. unsigned_abs z ≤ 2 ^ 33) y ys k) rest in
    let sum : unsigned_abs (x *ℤ y +ℤ dot xs ys) ≤ unsigned_abs x * unsigned_abs y + unsigned_abs (dot xs ys) = grind (arith, unsigned_abs-add, unsigned_abs-mul) in
    le_trans (mul-le-mul_left s sum) one

few-reach : (n : ℕ) → n < 7 → n * 2 ^ 99 ≤ 2 ^ 102
few-reach n h = omega arith

pub reach-value : (s : ℕ) (form : Affine) (at : List ℤ) → All (λ c. s * unsigned_abs c ≤ 2 ^ 66) form.coef → s * unsigned_abs form.cst ≤ 2 ^ 104 → length form.coef < 7 → AllWithinSize (2 ^ 33) at → s * unsigned_abs (value_at form at) ≤ 2 ^ 105
reach-value s form at coef cst few near =
    let a = reach-dot s form.coef at coef near in
    let b = few-reach (length form.coef) few in
    let c = mul-le-mul_left s (unsigned_abs-add (dot form.coef at) form.cst) in
    let d : s * (unsigned_abs (dot form.coef at) + unsigned_abs form.cst) ≡ s * unsigned_abs (dot form.coef at) + s * unsigned_abs form.cst = grind (arith) in
    omega arith

-- the stride times the trip less one
stride-near : (stride trip : ℤ) (s : ℕ) → s ≡ max 1 (unsigned_abs stride) → s * unsigned_abs trip ≤ 2 ^ 105 → s ≤ 2 ^ 63 → unsigned_abs (stride *ℤ (trip -ℤ pos 1)) ≤ 2 ^ 120
stride-near stride trip s e h k =
    let size : unsigned_abs stride ≤ s = omega arith in
    let a : unsigned_abs (trip -ℤ pos 1) ≤ unsigned_abs trip + 1 = grind (arith, ints) in
    let b = mul-le-mul size a in
    let c : s * (unsigned_abs trip + 1) ≡ s * unsigned_abs trip + s = grind (arith) in
    let d = unsigned_abs-mul stride (trip -ℤ pos 1) in
    omega arith

pub last-near : (kind : LoopKind) (trip : ℤ) → stride_size kind * unsigned_abs trip ≤ 2 ^ 105 → stride_size kind ≤ 2 ^ 63 → (stride : ℤ) → kind ≡ For stride → unsigned_abs (stride *ℤ (trip -ℤ pos 1)) ≤ 2 ^ 120
last-near kind trip h k stride e = stride-near stride trip (stride_size kind) (ap stride_size e) h k

pub size-some : (kind : LoopKind) → 1 ≤ stride_size kind
size-some (For stride) = omega arith
size-some While = omega arith

pub trip-near : (s : ℕ) (z : ℤ) → 1 ≤ s → s * unsigned_abs z ≤ 2 ^ 105 → unsigned_abs z ≤ 2 ^ 120
trip-near s z some h =
    let a = mul-le-mul_right (unsigned_abs z) some in
    omega arith

near-cut : (n : ℕ) (xs : List ℤ) → AllWithinSize (2 ^ 33) xs → AllWithinSize (2 ^ 33) (cut n xs)
near-cut n [] h = h
near-cut zero (x ∷ xs) h = All-cons (λ z. unsigned_abs z ≤ 2 ^ 33) (pos 0) (cut zero xs) (lit≤ tt) (near-cut zero xs (All-tail (λ z. unsigned_abs z ≤ 2 ^ 33) x xs h))
near-cut (suc n) (x ∷ xs) h = All-cons (λ z. unsigned_abs z ≤ 2 ^ 33) x (cut n xs) (All-head (λ z. unsigned_abs z ≤ 2 ^ 33) x xs h) (near-cut n xs (All-tail (λ z. unsigned_abs z ≤ 2 ^ 33) x xs h))

-- a trip at near counters
pub trip-reach : (t : Table) (k : ℕ) (s : ℕ) (at : List ℤ) → Reaches s (level_at t k).trip → AllWithinSize (2 ^ 33) at → s * unsigned_abs (trip t k at) ≤ 2 ^ 105
trip-reach t k s at reach near = by (level_at t k).trip refl
  where
    by : (o : Option Affine) → (level_at t k).trip ≡ o → s * unsigned_abs (trip t k at) ≤ 2 ^ 105
    by None e = subst (λ (z : ℤ). s * unsigned_abs z ≤ 2 ^ 105) (sym (trip-none t k at e)) (omega arith)
    by (Some form) e =
        let r : Reaches s (Some form) = subst (Reaches s) e reach in
        subst (λ (z : ℤ). s * unsigned_abs z ≤ 2 ^ 105) (sym (trip-some t k form at e)) (reach-value s form (cut k at) r.0 r.1 (let few = r.2 in omega arith) (near-cut k at near))
