-- Steps of a counter, found in an index.
use Rattle.std.proofs.Common.{◌≡◌, ap, subst, ◌∙◌, ℕ, ◌<◌, ◌≤◌, ℤ, pos, negsuc, ◌-ℤ◌, List, length, get_or, get_or-set_same, slice_index_or, FitsSigned, arith}
use Rattle.std.specs.Int.{w64}
use Rattle.line_fit.specs.Samples.{Sample, sample_at, one_less, IsStep}
use Rattle.line_fit.specs.Firsts.{IsFirstWith, IsAbsent}

-- the first sample with counters one less is the first from which there is a step
pub step-found : (k : ℕ) (samples : List Sample) (n a b : ℕ) → IsFirstWith samples n (one_less k (sample_at samples b).at) a → a < b → b < length samples → IsStep k samples a b
step-found k samples n a b found h w = record { earlier = h; within = w; less = found.same }

pub step-first : (k : ℕ) (samples : List Sample) (n a b : ℕ) → IsFirstWith samples n (one_less k (sample_at samples b).at) a → (c : ℕ) → c < a → IsStep k samples c b → ⊥
step-first k samples n a b found c h step = found.first c h step.less

-- there is no step where no sample, or only a later one, has counters one less
pub step-absent : (k : ℕ) (samples : List Sample) (n b : ℕ) → b < n → IsAbsent samples n (one_less k (sample_at samples b).at) → (c : ℕ) → IsStep k samples c b → ⊥
step-absent k samples n b h absent c step = absent c (omega (arith, step.earlier)) step.less

pub step-late : (k : ℕ) (samples : List Sample) (n a b : ℕ) → IsFirstWith samples n (one_less k (sample_at samples b).at) a → b ≤ a → (c : ℕ) → IsStep k samples c b → ⊥
step-late k samples n a b found h c step = found.first c (omega (arith, step.earlier)) step.less

-- nor where one less is no i64
pub step-least : (k : ℕ) (samples : List Sample) (b : ℕ) → k < length (sample_at samples b).at → slice_index_or (sample_at samples b).at k (pos 0) ≡ negsuc 9223372036854775807 → ((c : ℕ) → c < b → FitsSigned w64 (slice_index_or (sample_at samples c).at k (pos 0))) → (c : ℕ) → IsStep k samples c b → ⊥
step-least k samples b within least numbers c step =
    let fits = numbers c step.earlier in
    let is : get_or (sample_at samples c).at k (pos 0) ≡ get_or (sample_at samples b).at k (pos 0) -ℤ pos 1 = ap (λ at. get_or at k (pos 0)) step.less ∙ get_or-set_same (sample_at samples b).at k (get_or (sample_at samples b).at k (pos 0) -ℤ pos 1) (pos 0) within in
    let below : FitsSigned w64 (negsuc 9223372036854775807 -ℤ pos 1) = subst (FitsSigned w64) (is ∙ ap (λ (z : ℤ). z -ℤ pos 1) least) fits in
    no-less below
  where
    no-less : FitsSigned w64 (negsuc 9223372036854775807 -ℤ pos 1) → ⊥
    no-less h = let small = h.sfits in omega arith

pub ruleset steps = (step-found, step-first, step-absent, step-late, step-least)
