-- Samples have one line, and one fit.
use Rattle.std.proofs.Common.{◌≡◌, refl, sym, subst, ap, ◌∙◌, ℕ, zero, suc, ◌<◌, ◌≤◌, ◌⊎◌, inl, inr, ℤ, pos, negsuc, ◌+ℤ◌, ◌-ℤ◌, ◌*ℤ◌, ◌≤ℤ◌, List, [], ◌∷◌, length, get_or, unsigned_abs, FitsSigned, arith}
use Rattle.std.specs.Int.{w64}
use Rattle.std.proofs.lemmas.Int.{ints}
use Rattle.affine.specs.Forms.{Affine, value_at}
use Rattle.affine.specs.Sums.{dot}
use Rattle.plain_lemmas.proofs.IntegerLaws.{*ℤ-+ℤ}
use Rattle.line_fit.specs.Samples.{Sample, sample_at, one_less, IsStep, IsFirstStep}
use Rattle.line_fit.specs.Lines.{largest, Tube, Miss, IsLine, IsSmall, IsLarge, IsTube, Meets, IsTooWide}
use Rattle.line_fit.specs.Laws.{CoefficientIsOne, LineIsOne, FitIsOne, SamplesLieInTube, HasPair, LineIsOnlyAffine, FitOrUnfit}

-- ---- one coefficient

cases : (a b : ℕ) → (a < b) ⊎ ((a ≡ b) ⊎ (b < a))
cases a b = grind arith

same-to : (k : ℕ) (samples : List Sample) (a b c d : ℕ) → IsFirstStep k samples a b → IsFirstStep k samples c d → b ≡ d
same-to k samples a b c d one two = elim (cases b d) [ inl less ↦ absurd (two.first a b less one.step) | inr rest ↦ elim rest [ inl same ↦ same | inr more ↦ absurd (one.first c d more two.step) ] ]

same-from : (k : ℕ) (samples : List Sample) (a b c d : ℕ) → IsFirstStep k samples a b → IsFirstStep k samples c d → b ≡ d → a ≡ c
same-from k samples a b c d one two same =
    elim (cases a c) [
      | inl less ↦ absurd (two.only a less (subst (IsStep k samples a) same one.step))
      | inr rest ↦ elim rest [ inl e ↦ e | inr more ↦ absurd (one.only c more (subst (IsStep k samples c) (sym same) two.step)) ]
    ]

pub coefficient-one : CoefficientIsOne
coefficient-one k samples c d (inl none) (inl other) = none.1 ∙ sym other.1
coefficient-one k samples c d (inl none) (inr rise) = absurd (none.0 rise.from rise.to rise.step.step)
coefficient-one k samples c d (inr rise) (inl none) = absurd (none.0 rise.from rise.to rise.step.step)
coefficient-one k samples c d (inr one) (inr two) =
    let to = same-to k samples one.from one.to two.from two.to one.step two.step in
    let from = same-from k samples one.from one.to two.from two.to one.step two.step to in
    one.difference ∙ ap (λ (b : ℕ). (sample_at samples b).value -ℤ (sample_at samples one.from).value) to ∙ ap (λ (a : ℕ). (sample_at samples two.to).value -ℤ (sample_at samples a).value) from ∙ sym two.difference

-- ---- one line

-- lists of one length with equal numbers at each place are equal
pub same_numbers : (xs ys : List ℤ) → length xs ≡ length ys → ((k : ℕ) → k < length xs → get_or xs k (pos 0) ≡ get_or ys k (pos 0)) → xs ≡ ys
same_numbers [] [] size each = refl
same_numbers [] (y ∷ ys) size each = absurd (omega arith)
same_numbers (x ∷ xs) [] size each = absurd (omega arith)
same_numbers (x ∷ xs) (y ∷ ys) size each =
    let first : x ≡ y = each 0 (omega arith) in
    let rest = same_numbers xs ys (omega arith) (λ k h. each (suc k) (omega arith)) in
    cc

cancel : (x a b : ℤ) → x +ℤ a ≡ x +ℤ b → a ≡ b
cancel x a b h = omega (arith, ints)

abbrev affine : List ℤ → ℤ → Affine
affine coef cst = record { coef = coef; cst = cst }

abbrev tube_of : Affine → ℤ → ℤ → Tube
tube_of line low high = record { line = line; low = low; high = high }

-- two lines with the same coefficients that both meet a sample are the same
same-line : (line other : Affine) (s : Sample) → line.coef ≡ other.coef → value_at line s.at ≡ s.value → value_at other s.at ≡ s.value → line ≡ other
same-line line other s coef one two =
    let turned : dot line.coef s.at +ℤ other.cst ≡ s.value = ap (λ (q : List ℤ). dot q s.at +ℤ other.cst) coef ∙ two in
    let cst : line.cst ≡ other.cst = cancel (dot line.coef s.at) line.cst other.cst (one ∙ sym turned) in
    let first : line ≡ affine other.coef line.cst = ap (λ (q : List ℤ). affine q line.cst) coef in
    first ∙ ap (affine other.coef) cst

pub line-one : LineIsOne
line-one n samples line other one two =
    same-line line other (sample_at samples 0)
    (same_numbers line.coef other.coef (one.coefficients.counters ∙ sym two.coefficients.counters)
    (λ k h. let within : k < n = subst (λ (m : ℕ). k < m) one.coefficients.counters h in coefficient-one k samples _ _ (one.coefficients.each k within) (two.coefficients.each k within)))
    one.meets two.meets

-- ---- one fit

least-one : (samples : List Sample) (line : Affine) (low high low' high' : ℤ) → IsTube line samples low high → IsTube line samples low' high' → low ≡ low'
least-one samples line low high low' high' one two =
    let a = (two.about one.least.0 one.least.1).0 in let b = (one.about two.least.0 two.least.1).0 in
    let c : low' ≤ℤ low = subst (λ (z : ℤ). low' ≤ℤ z) one.least.2 a in let d : low ≤ℤ low' = subst (λ (z : ℤ). low ≤ℤ z) two.least.2 b in omega (arith, ints)

greatest-one : (samples : List Sample) (line : Affine) (low high low' high' : ℤ) → IsTube line samples low high → IsTube line samples low' high' → high ≡ high'
greatest-one samples line low high low' high' one two =
    let a = (two.about one.greatest.0 one.greatest.1).1 in let b = (one.about two.greatest.0 two.greatest.1).1 in
    let c : high ≤ℤ high' = subst (λ (z : ℤ). z ≤ℤ high') one.greatest.2 a in let d : high' ≤ℤ high = subst (λ (z : ℤ). z ≤ℤ high) two.greatest.2 b in omega (arith, ints)

pub fit-one : FitIsOne
fit-one n widest samples tube other some one two =
    let line = line-one n samples tube.line other.line one.line two.line in
    let spread = subst (λ (l : Affine). IsTube l samples other.low other.high) (sym line) two.spread in
    let low = least-one samples tube.line tube.low tube.high other.low other.high one.spread spread in
    let high = greatest-one samples tube.line tube.low tube.high other.low other.high one.spread spread in
    let first : tube ≡ tube_of other.line tube.low tube.high = ap (λ (l : Affine). tube_of l tube.low tube.high) line in
    first ∙ ap (λ (z : ℤ). tube_of other.line z tube.high) low ∙ ap (tube_of other.line other.low) high

-- ---- in the tube

pub lie-in-tube : SamplesLieInTube
lie-in-tube n widest samples tube fit place h =
    let about = fit.spread.about place h in let low = about.0 in let high = about.1 in
    (above (value_at tube.line (sample_at samples place).at) (sample_at samples place).value tube.low low, below (value_at tube.line (sample_at samples place).at) (sample_at samples place).value tube.high high)
  where
    above : (line value low : ℤ) → low ≤ℤ (value -ℤ line) → (line +ℤ low) ≤ℤ value
    above line value low h = omega (arith, ints)

    below : (line value high : ℤ) → (value -ℤ line) ≤ℤ high → value ≤ℤ (line +ℤ high)
    below line value high h = omega (arith, ints)

-- ---- the only affine function

-- one less in a counter takes its coefficient from the sum
pub dot-one_less : (coef at : List ℤ) (k : ℕ) → k < length coef → k < length at → dot coef (one_less k at) +ℤ get_or coef k (pos 0) ≡ dot coef at
dot-one_less [] at k h w = absurd (omega arith)
dot-one_less (c ∷ coef) [] k h w = absurd (omega arith)
dot-one_less (c ∷ coef) (x ∷ at) zero h w = first c x (dot coef at)
  where
    first : (c x rest : ℤ) → c *ℤ (x -ℤ pos 1) +ℤ rest +ℤ c ≡ c *ℤ x +ℤ rest
    first c x rest = rw (*ℤ-+ℤ c x (negsuc 0)) (omega (arith, ints))
dot-one_less (c ∷ coef) (x ∷ at) (suc k) h w = let rest = dot-one_less coef at k (omega arith) (omega arith) in behind (c *ℤ x) _ (get_or coef k (pos 0)) _ rest
  where
    behind : (a b c d : ℤ) → b +ℤ c ≡ d → a +ℤ b +ℤ c ≡ a +ℤ d
    behind a b c d h = omega (arith, ints)

met : (samples : List Sample) (line : Affine) → IsTube line samples (pos 0) (pos 0) → (place : ℕ) → place < length samples → Meets line samples place
met samples line tube place h =
    let about = tube.about place h in let low = about.0 in let high = about.1 in
    on (value_at line (sample_at samples place).at) (sample_at samples place).value low high
  where
    on : (line value : ℤ) → pos 0 ≤ℤ (value -ℤ line) → (value -ℤ line) ≤ℤ pos 0 → line ≡ value
    on line value l h = omega (arith, ints)

-- the rise of a line over a pair is its coefficient
rise-is : (samples : List Sample) (line : Affine) (k : ℕ) (pair : HasPair k samples) → k < length line.coef → k < length (sample_at samples pair.upper).at → ((place : ℕ) → place < length samples → Meets line samples place)
    → (sample_at samples pair.lower).value +ℤ get_or line.coef k (pos 0) ≡ (sample_at samples pair.upper).value
rise-is samples line k pair h w meets =
    let lower = meets pair.lower pair.lower_within in
    let upper = meets pair.upper pair.upper_within in
    let below : dot line.coef (one_less k (sample_at samples pair.upper).at) +ℤ line.cst ≡ (sample_at samples pair.lower).value = ap (λ (q : List ℤ). dot line.coef q +ℤ line.cst) (sym pair.apart) ∙ lower in
    put (dot line.coef (one_less k (sample_at samples pair.upper).at)) (get_or line.coef k (pos 0)) (dot line.coef (sample_at samples pair.upper).at) line.cst _ _ (dot-one_less line.coef (sample_at samples pair.upper).at k h w) below upper
  where
    put : (a c d cst low high : ℤ) → a +ℤ c ≡ d → a +ℤ cst ≡ low → d +ℤ cst ≡ high → low +ℤ c ≡ high
    put a c d cst low high e f g = omega (arith, ints)

pub only-affine : LineIsOnlyAffine
only-affine n widest samples tube some sizes fit low high pairs = (mine, others)
  where
    mine : (place : ℕ) → place < length samples → Meets tube.line samples place
    mine = met samples tube.line (subst (λ (z : ℤ). IsTube tube.line samples (pos 0) z) high (subst (λ (z : ℤ). IsTube tube.line samples z tube.high) low fit.spread))

    others : (other : Affine) → length other.coef ≡ n → ((place : ℕ) → place < length samples → Meets other samples place) → other ≡ tube.line
    others other size meets =
        same-line other tube.line (sample_at samples 0)
        (same_numbers other.coef tube.line.coef (size ∙ sym fit.line.coefficients.counters) (λ k h. let within : k < n = subst (λ (m : ℕ). k < m) size h in each k within))
        (meets 0 some) (mine 0 some)
      where
        each : (k : ℕ) → k < n → get_or other.coef k (pos 0) ≡ get_or tube.line.coef k (pos 0)
        each k within =
            let pair = pairs k within in
            let long : k < length (sample_at samples pair.upper).at = subst (λ (m : ℕ). k < m) (sym (sizes pair.upper pair.upper_within)) within in
            let one = rise-is samples other k pair (subst (λ (m : ℕ). k < m) (sym size) within) long meets in
            let two = rise-is samples tube.line k pair (subst (λ (m : ℕ). k < m) (sym fit.line.coefficients.counters) within) long mine in
            cancel (sample_at samples pair.lower).value _ _ (one ∙ sym two)

-- ---- a fit, or none

not-large : (n : ℕ) (samples : List Sample) (line : Affine) → IsLine n samples line → IsSmall line → (number : ℤ) → IsLarge n samples number → ⊥
not-large n samples line through small number (inl large) =
    let is = coefficient-one large.counter samples number _ large.is (through.coefficients.each large.counter large.within) in
    let within : large.counter < length line.coef = subst (λ (m : ℕ). large.counter < m) (sym through.coefficients.counters) large.within in
    let kept : unsigned_abs number ≤ largest = subst (λ (z : ℤ). unsigned_abs z ≤ largest) (sym is) (small.coefficients large.counter (pos 0) within) in
    let size = large.large in
    omega arith
not-large n samples line through small number (inr large) =
    let same = line-one n samples large.line line large.through through in
    large.large (subst (FitsSigned w64) (sym (large.is ∙ ap (λ (l : Affine). l.cst) same)) small.constant)

pub fit-or-unfit : FitOrUnfit
fit-or-unfit n widest samples tube some fit = (not-large n samples tube.line fit.line fit.small, not-wide)
  where
    not-wide : (miss : Miss) → IsTooWide n widest samples miss → ⊥
    not-wide miss wide =
        let line = line-one n samples tube.line wide.line fit.line wide.through in
        let spread = subst (λ (l : Affine). IsTube l samples wide.low wide.high) (sym line) wide.spread in
        let low = least-one samples tube.line tube.low tube.high wide.low wide.high fit.spread spread in
        let high = greatest-one samples tube.line tube.low tube.high wide.low wide.high fit.spread spread in
        let narrow = fit.narrow in let broad = wide.wide in
        omega (arith, ints)
