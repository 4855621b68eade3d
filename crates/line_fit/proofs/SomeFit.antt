-- Samples have a fit, or a reason that there is none.
use Rattle.std.proofs.Common.{◌≡◌, refl, sym, subst, ap, ◌∙◌, ℕ, zero, suc, ◌^◌, ◌<◌, ◌≤◌, ◌⊎◌, inl, inr, ℤ, pos, negsuc, ◌+ℤ◌, ◌-ℤ◌, ◌≤ℤ◌, ◌<ℤ◌, Bool, true, false, List, [], ◌∷◌, length, map, get_or, drop, int_lt, unsigned_abs, FitsSigned, arith}
use Rattle.std.specs.Int.{w64}
use Rattle.std.specs.List.{range_with_len}
use Rattle.std.specs.Ordering.{int_eq}
use Rattle.std.proofs.lemmas.Int.{ints}
use Rattle.std.proofs.lemmas.List.FromFn.{get_or-map-range_with_len, length-map-range_with_len}
use Rattle.affine.specs.Forms.{Affine, AllWithinSize, value_at}
use Rattle.affine.specs.Sums.{dot}
use Rattle.plain_lemmas.proofs.IntegerLaws.{int_eq-true, int_eq-false, int_lt-true, int_lt-false}
use Rattle.line_fit.specs.Samples.{Sample, sample_at, one_less, IsStep, IsCoefficient}
use Rattle.line_fit.specs.Lines.{largest, residual, IsLine, IsSmall, IsLarge, IsLargeCoefficient, IsTube, IsFirstMiss, Miss, Meets}
use Rattle.line_fit.specs.Laws.{FitOrReason, ReasonIsOne}
use Rattle.line_fit.proofs.CoefficientLaws.{coefficients-whole, large-found}
use Rattle.line_fit.proofs.FitLaws.{line-found, line-small, constant-large, tube-of-met}
use Rattle.line_fit.proofs.LineLaws.{coefficient-one, line-one}
use Rattle.line_fit.proofs.TubeLaws.{TubeOver, tube-one, tube-whole}

-- ---- finite search

abbrev Decided : Type 0 → Type 0
Decided P = P ⊎ (P → ⊥)

abbrev First : (ℕ → Type 0) → ℕ → Type 0
First P i = P i × ((j : ℕ) → j < i → P j → ⊥)

-- the first number below n of which something holds, or none
first : (P : ℕ → Type 0) → ((i : ℕ) → Decided (P i)) → (n : ℕ) → ((i : ℕ) × (i < n) × First P i) ⊎ ((i : ℕ) → i < n → P i → ⊥)
first P decide zero = inr (λ i h p. omega (arith, h))
first P decide (suc n) = elim (first P decide n) [
  | inl found ↦ inl (found.0, (let h = found.1 in omega arith), found.2)
  | inr none ↦ elim (decide n) [
    | inl here ↦ inl (n, omega arith, (here, none))
    | inr other ↦ inr (λ i h p. elim (last i n h) [ inl less ↦ none i less p | inr same ↦ other (subst P same p) ])
  ]
]
  where
    last : (i n : ℕ) → i < suc n → (i < n) ⊎ (i ≡ n)
    last i n h = grind arith

decide-int : (a b : ℤ) → Decided (a ≡ b)
decide-int a b = at (int_eq a b) refl
  where
    at : (z : Bool) → int_eq a b ≡ z → Decided (a ≡ b)
    at true e = inl (int_eq-true a b e)
    at false e = inr (int_eq-false a b e)

decide-less : (a b : ℕ) → (a < b) ⊎ (b ≤ a)
decide-less a b = grind arith

decide-list : (xs ys : List ℤ) → Decided (xs ≡ ys)
decide-list [] [] = inl refl
decide-list [] (y ∷ ys) = inr (λ e. cc)
decide-list (x ∷ xs) [] = inr (λ e. cc)
decide-list (x ∷ xs) (y ∷ ys) = elim (decide-int x y) [
  | inr other ↦ inr (λ e. other (ap (λ (zs : List ℤ). get_or zs 0 (pos 0)) e))
  | inl same ↦ elim (decide-list xs ys) [
    | inl rest ↦ inl (cc)
    | inr other ↦ inr (λ e. other (ap (λ (zs : List ℤ). drop 1 zs) e))
  ]
]

-- ---- coefficients

module _ (k : ℕ) (samples : List Sample) where
  decide-step : (a b : ℕ) → Decided (IsStep k samples a b)
  decide-step a b = elim (decide-less a b) [
    | inr late ↦ inr (λ step. let h = step.earlier in omega arith)
    | inl earlier ↦ elim (decide-less b (length samples)) [
      | inr past ↦ inr (λ step. let h = step.within in omega arith)
      | inl within ↦ elim (decide-list (sample_at samples a).at (one_less k (sample_at samples b).at)) [
        | inl less ↦ inl (record { earlier = earlier; within = within; less = less })
        | inr other ↦ inr (λ step. other step.less)
      ]
    ]
  ]

  abbrev StepTo : ℕ → Type 0
  StepTo b = (a : ℕ) × First (λ c. IsStep k samples c b) a

  decide-to : (b : ℕ) → Decided (StepTo b)
  decide-to b = elim (first (λ c. IsStep k samples c b) (λ c. decide-step c b) b) [
    | inl found ↦ inl (found.0, found.2)
    | inr none ↦ inr (λ to. none to.0 to.1.0.earlier to.1.0)
  ]

  -- a step leads to its second sample
  leads : (a b : ℕ) → IsStep k samples a b → StepTo b
  leads a b step = elim (first (λ c. IsStep k samples c b) (λ c. decide-step c b) b) [
    | inl found ↦ (found.0, found.2)
    | inr none ↦ absurd (none a step.earlier step)
  ]

  pub coefficient : (number : ℤ) × IsCoefficient k samples number
  coefficient = elim (first StepTo decide-to (length samples)) [
    | inr none ↦ (pos 0, inl (λ a b step. none b step.within (leads a b step), refl))
    | inl (b, within, ((a, (step, only)), before)) ↦ (
      (sample_at samples b).value -ℤ (sample_at samples a).value,
      inr (record {
        from = a;
        to = b;
        step = record { step = step; first = λ c d h other. before d h (leads c d other); only = only };
        difference = refl;
      }),
    )
  ]

-- ---- the line

module _ (n : ℕ) (samples : List Sample) where
  number : ℕ → ℤ
  number k = (coefficient k samples).0

  numbers : List ℤ
  numbers = map number (range_with_len 0 n)

  numbers-count : length numbers ≡ n
  unfolding numbers
  numbers-count = length-map-range_with_len number 0 n

  numbers-at : (k : ℕ) → k < n → get_or numbers k (pos 0) ≡ number k
  unfolding numbers
  numbers-at k h = get_or-map-range_with_len number 0 n k k (pos 0) h (omega arith)

  numbers-are : (k : ℕ) → k < n → IsCoefficient k samples (get_or numbers k (pos 0))
  unfolding number
  numbers-are k h = subst (IsCoefficient k samples) (sym (numbers-at k h)) (coefficient k samples).1

  constant : ℤ
  constant = (sample_at samples 0).value -ℤ (dot numbers (sample_at samples 0).at +ℤ pos 0)

  line : Affine
  line = record { coef = numbers; cst = constant }

  line-through : IsLine n samples line
  unfolding line constant
  line-through = line-found n samples numbers (sample_at samples 0).at (sample_at samples 0).value constant (record { counters = numbers-count; each = numbers-are }) refl refl refl

fits-or-not : (z : ℤ) → Decided (FitsSigned w64 z)
fits-or-not (pos m) = elim (decide-less m (2 ^ 63)) [ inl small ↦ inl (omega (arith, ints, small)) | inr large ↦ inr (λ h. let s = h.sfits in omega (arith, large)) ]
fits-or-not (negsuc m) = elim (decide-less m (2 ^ 63)) [ inl small ↦ inl (omega (arith, ints, small)) | inr large ↦ inr (λ h. let s = h.sfits in omega (arith, large)) ]

small-or-large : (n : ℕ) (samples : List Sample) → IsSmall (line n samples) ⊎ ((z : ℤ) × IsLarge n samples z)
unfolding line
small-or-large n samples = elim (first (λ k. largest < unsigned_abs (get_or (numbers n samples) k (pos 0))) (λ k. over (unsigned_abs (get_or (numbers n samples) k (pos 0)))) n) [
  | inl (k, within, (large, before)) ↦ inr (
    get_or (numbers n samples) k (pos 0),
    inl (large-found n samples (numbers n samples) k (get_or (numbers n samples) k (pos 0)) within
        (λ j h. numbers-are n samples j (omega (arith, h, within))) (λ j h. under (unsigned_abs (get_or (numbers n samples) j (pos 0))) (before j h)) (numbers-are n samples k within) large),
  )
  | inr none ↦
      let all = coefficients-whole n samples (numbers n samples) n (numbers-count n samples) (omega arith) (numbers-are n samples) (λ k h. under (unsigned_abs (get_or (numbers n samples) k (pos 0))) (none k h)) in
      elim (fits-or-not (constant n samples)) [
        | inl fits ↦ inl (line-small (numbers n samples) (constant n samples) all.1 fits)
        | inr large ↦ inr (constant n samples, constant-large n samples (numbers n samples) (constant n samples) (line-through n samples) all.1 large)
      ]
]
  where
    over : (m : ℕ) → Decided (largest < m)
    over m = elim (decide-less largest m) [ inl h ↦ inl h | inr h ↦ inr (λ l. omega (arith, h, l)) ]

    under : (m : ℕ) → (largest < m → ⊥) → m ≤ largest
    under m other = elim (decide-less largest m) [ inl h ↦ absurd (other h) | inr h ↦ h ]

-- ---- the tube

decide-int_le : (x y : ℤ) → (x ≤ℤ y) ⊎ (y <ℤ x)
decide-int_le x y = at (int_lt y x) refl
  where
    at : (b : Bool) → int_lt y x ≡ b → (x ≤ℤ y) ⊎ (y <ℤ x)
    at true e = inr (int_lt-true y x e)
    at false e = inl (int_lt-false y x e)

order : (x y : ℤ) → (x ≤ℤ y) ⊎ (y ≤ℤ x)
order x y = elim (decide-int_le x y) [ inl h ↦ inl h | inr h ↦ inr (omega (arith, ints, h)) ]

-- the lesser and the greater of two numbers
lesser : (x y : ℤ) → (z : ℤ) × ((z ≡ x) ⊎ (z ≡ y)) × (z ≤ℤ x) × (z ≤ℤ y)
lesser x y = elim (order x y) [ inl h ↦ (x, inl refl, omega (arith, ints), h) | inr h ↦ (y, inr refl, h, omega (arith, ints)) ]

greater : (x y : ℤ) → (z : ℤ) × ((z ≡ x) ⊎ (z ≡ y)) × (x ≤ℤ z) × (y ≤ℤ z)
greater x y = elim (order x y) [ inl h ↦ (y, inr refl, h, omega (arith, ints)) | inr h ↦ (x, inl refl, omega (arith, ints), h) ]

module _ (line : Affine) (samples : List Sample) where
  over-first : (n : ℕ) → (low : ℤ) × (high : ℤ) × TubeOver line samples (suc n) low high
  over-first zero = (residual line (sample_at samples 0), residual line (sample_at samples 0), tube-one line samples (residual line (sample_at samples 0)) refl)
  over-first (suc n) =
      let before = over-first n in
      let r = residual line (sample_at samples (suc n)) in
      let least = lesser before.0 r in
      let most = greater before.1 r in (
        least.0,
        most.0,
        record {
          least = elim least.1 [ inl same ↦ (before.2.least.0, (let h = before.2.least.1 in omega arith), before.2.least.2 ∙ sym same) | inr same ↦ (suc n, omega arith, sym same) ];
          greatest = elim most.1 [ inl same ↦ (before.2.greatest.0, (let h = before.2.greatest.1 in omega arith), before.2.greatest.2 ∙ sym same) | inr same ↦ (suc n, omega arith, sym same) ];
          about = λ place h. elim (last place (suc n) h) [
            | inl less ↦ within before.0 before.1 least.0 most.0 (residual line (sample_at samples place)) (before.2.about place less) least.2 most.2
            | inr same ↦ subst (λ (p : ℕ). (least.0 ≤ℤ residual line (sample_at samples p)) × (residual line (sample_at samples p) ≤ℤ most.0)) (sym same) (least.3, most.3)
          ];
        },
      )
    where
      last : (i n : ℕ) → i < suc n → (i < n) ⊎ (i ≡ n)
      last i n h = grind arith

      within : (low high less more r : ℤ) → (low ≤ℤ r) × (r ≤ℤ high) → less ≤ℤ low → high ≤ℤ more → (less ≤ℤ r) × (r ≤ℤ more)
      within low high less more r both a b = let c = both.0 in let d = both.1 in (omega (arith, ints), omega (arith, ints))

  tube : 0 < length samples → (low : ℤ) × (high : ℤ) × IsTube line samples low high
  tube some = sized (length samples) refl some
    where
      sized : (n : ℕ) → n ≡ length samples → 0 < n → (low : ℤ) × (high : ℤ) × IsTube line samples low high
      sized zero e h = absurd (omega (arith, h))
      sized (suc n) e h = let over = over-first n in (over.0, over.1, tube-whole line samples (suc n) over.0 over.1 e over.2)

  -- a line that doesn't meet every sample misses a first one
  missed : (low high : ℤ) (widest : ℕ) → IsTube line samples low high → pos widest <ℤ (high -ℤ low) → (miss : Miss) × IsFirstMiss line samples miss
  missed low high widest spread wide = elim (first (λ place. Meets line samples place → ⊥) (λ place. apart place) (length samples)) [
    | inr none ↦ absurd (tube-of-met samples line low high widest spread (λ place h. met place (none place h)) wide)
    | inl (place, within, (other, before)) ↦ (
      record { at = (sample_at samples place).at; line = value_at line (sample_at samples place).at; seen = (sample_at samples place).value },
      record { place = place; within = within; at = refl; seen = refl; expected = refl; differs = λ e. other (sym e); first = λ earlier h. met earlier (before earlier h) },
    )
  ]
    where
      apart : (place : ℕ) → Decided (Meets line samples place → ⊥)
      apart place = elim (decide-int (value_at line (sample_at samples place).at) (sample_at samples place).value) [ inl e ↦ inr (λ h. h e) | inr h ↦ inl h ]

      met : (place : ℕ) → ((Meets line samples place → ⊥) → ⊥) → Meets line samples place
      met place h = elim (decide-int (value_at line (sample_at samples place).at) (sample_at samples place).value) [ inl e ↦ e | inr other ↦ absurd (h other) ]

-- ---- the whole

pub fit-or-reason : FitOrReason
fit-or-reason n widest samples some = elim (small-or-large n samples) [
  | inr large ↦ inr (inl large)
  | inl small ↦
      let about = tube (line n samples) samples some in
      elim (decide-int_le (about.1 -ℤ about.0) (pos widest)) [
        | inl narrow ↦ inl (record { line = line n samples; low = about.0; high = about.1 }, record { line = line-through n samples; small = small; spread = about.2; narrow = narrow })
        | inr wide ↦
            let miss = missed (line n samples) samples about.0 about.1 widest about.2 wide in
            inr (inr (miss.0, record { line = line n samples; through = line-through n samples; small = small; low = about.0; high = about.1; spread = about.2; wide = wide; missed = miss.1 }))
      ]
]

-- ---- one reason

-- a coefficient that is small isn't large
not-both : (k : ℕ) (samples : List Sample) (number : ℤ) → IsCoefficient k samples number → largest < unsigned_abs number → (small : ℤ) → IsCoefficient k samples small → unsigned_abs small ≤ largest → ⊥
not-both k samples number is large small other kept =
    let same = coefficient-one k samples number small is other in
    let size : unsigned_abs number ≤ largest = subst (λ (z : ℤ). unsigned_abs z ≤ largest) (sym same) kept in
    omega (arith, large, size)

-- nor is one of a line whose coefficients are small
not-of-line : (n : ℕ) (samples : List Sample) (number : ℤ) (line : Affine) → IsLargeCoefficient n samples number → IsLine n samples line → AllWithinSize largest line.coef → ⊥
not-of-line n samples number line large through small =
    let within : large.counter < length line.coef = subst (λ (m : ℕ). large.counter < m) (sym through.coefficients.counters) large.within in
    not-both large.counter samples number large.is large.large (get_or line.coef large.counter (pos 0)) (through.coefficients.each large.counter large.within) (small large.counter (pos 0) within)

compared : (a b : ℕ) → (a < b) ⊎ ((a ≡ b) ⊎ (b < a))
compared a b = grind arith

large-one : (n : ℕ) (samples : List Sample) (a b : ℤ) → IsLarge n samples a → IsLarge n samples b → a ≡ b
large-one n samples a b (inl one) (inl two) = elim (compared one.counter two.counter) [
  | inl less ↦ (let small = two.first one.counter less in absurd (not-both one.counter samples a one.is one.large small.coefficient small.is small.small))
  | inr rest ↦ elim rest [
    | inl same ↦ coefficient-one two.counter samples a b (subst (λ (k : ℕ). IsCoefficient k samples a) same one.is) two.is
    | inr more ↦ (let small = one.first two.counter more in absurd (not-both two.counter samples b two.is two.large small.coefficient small.is small.small))
  ]
]
large-one n samples a b (inl one) (inr two) = absurd (not-of-line n samples a two.line one two.through two.coefficients)
large-one n samples a b (inr one) (inl two) = absurd (not-of-line n samples b one.line two one.through one.coefficients)
large-one n samples a b (inr one) (inr two) = one.is ∙ ap (λ (l : Affine). l.cst) (line-one n samples one.line two.line one.through two.through) ∙ sym two.is

-- a line that can be kept has no number that is too large
not-large : (n : ℕ) (samples : List Sample) (line : Affine) (number : ℤ) → IsLine n samples line → IsSmall line → IsLarge n samples number → ⊥
not-large n samples line number through small (inl large) = not-of-line n samples number line large through small.coefficients
not-large n samples line number through small (inr large) =
    large.large (subst (FitsSigned w64) (sym (large.is ∙ ap (λ (l : Affine). l.cst) (line-one n samples large.line line large.through through))) small.constant)

abbrev miss-of : List ℤ → ℤ → ℤ → Miss
miss-of at line seen = record { at = at; line = line; seen = seen }

-- a line misses one sample first
miss-one : (line : Affine) (samples : List Sample) (a b : Miss) → IsFirstMiss line samples a → IsFirstMiss line samples b → a ≡ b
miss-one line samples a b one two = elim (compared one.place two.place) [
  | inl less ↦ absurd (one.differs (met a one (two.first one.place less)))
  | inr rest ↦ elim rest [
    | inl same ↦
        let at : a.at ≡ b.at = one.at ∙ ap (λ (p : ℕ). (sample_at samples p).at) same ∙ sym two.at in
        let seen : a.seen ≡ b.seen = one.seen ∙ ap (λ (p : ℕ). (sample_at samples p).value) same ∙ sym two.seen in
        let expected : a.line ≡ b.line = one.expected ∙ ap (value_at line) at ∙ sym two.expected in
        ap (λ (z : List ℤ). miss-of z a.line a.seen) at ∙ ap (λ (z : ℤ). miss-of b.at z a.seen) expected ∙ ap (λ (z : ℤ). miss-of b.at b.line z) seen
    | inr more ↦ absurd (two.differs (met b two (one.first two.place more)))
  ]
]
  where
    met : (m : Miss) (is : IsFirstMiss line samples m) → Meets line samples is.place → m.seen ≡ m.line
    met m is meets = is.seen ∙ sym meets ∙ ap (value_at line) (sym is.at) ∙ sym is.expected

pub reason-one : ReasonIsOne
reason-one n widest samples = (
  large-one n samples,
  λ number miss large wide. not-large n samples wide.line number wide.through wide.small large,
  λ a b one two. miss-one two.line samples a b (subst (λ (l : Affine). IsFirstMiss l samples a) (line-one n samples one.line two.line one.through two.through) one.missed) two.missed,
)
