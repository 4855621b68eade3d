-- The tube of a line, over more and more samples.
use Rattle.std.proofs.Common.{◌≡◌, refl, sym, subst, ap, ◌∙◌, ℕ, ◌+◌, ◌<◌, ◌⊎◌, inl, inr, ℤ, ◌≤ℤ◌, List, length, Bool, true, false, cond, int_lt, unsigned_abs, arith}
use Rattle.std.specs.Int.{int_min, int_max}
use Rattle.std.proofs.lemmas.Int.{ints}
use Rattle.affine.specs.Forms.{Affine}
use Rattle.line_fit.specs.Samples.{Sample, sample_at}
use Rattle.line_fit.specs.Lines.{residual, IsTube}

-- the tube over the first n samples
pub record TubeOver (line : Affine) (samples : List Sample) (n : ℕ) (low high : ℤ) : Type 0 where
  pub least : (place : ℕ) × (place < n) × (residual line (sample_at samples place) ≡ low)
  pub greatest : (place : ℕ) × (place < n) × (residual line (sample_at samples place) ≡ high)
  pub about : (place : ℕ) → place < n → (low ≤ℤ residual line (sample_at samples place)) × (residual line (sample_at samples place) ≤ℤ high)

pub tube-one : (line : Affine) (samples : List Sample) (r : ℤ) → r ≡ residual line (sample_at samples 0) → TubeOver line samples 1 r r
tube-one line samples r e = record {
  least = (0, omega arith, sym e);
  greatest = (0, omega arith, sym e);
  about = λ place h. only place (omega arith);
}
  where
    only : (place : ℕ) → place ≡ 0 → (r ≤ℤ residual line (sample_at samples place)) × (residual line (sample_at samples place) ≤ℤ r)
    only place z =
        let same : r ≡ residual line (sample_at samples place) = e ∙ ap (λ (p : ℕ). residual line (sample_at samples p)) (sym z) in
        (omega (arith, ints), omega (arith, ints))

min-reached : (x y : ℤ) → (int_min x y ≡ x) ⊎ (int_min x y ≡ y)
min-reached x y = at (int_lt y x)
  where
    at : (b : Bool) → (cond b y x ≡ x) ⊎ (cond b y x ≡ y)
    at true = inr refl
    at false = inl refl

max-reached : (x y : ℤ) → (int_max x y ≡ x) ⊎ (int_max x y ≡ y)
max-reached x y = at (int_lt y x)
  where
    at : (b : Bool) → (cond b x y ≡ x) ⊎ (cond b x y ≡ y)
    at true = inl refl
    at false = inr refl

-- the size of the lesser and of the greater of two numbers
pub min-size : (x y least : ℤ) (n : ℕ) → least ≡ int_min x y → unsigned_abs x < n → unsigned_abs y < n → unsigned_abs least < n
min-size x y least n is a b = elim (min-reached x y) [ inl e ↦ subst (λ (z : ℤ). unsigned_abs z < n) (sym (is ∙ e)) a | inr e ↦ subst (λ (z : ℤ). unsigned_abs z < n) (sym (is ∙ e)) b ]

pub max-size : (x y greatest : ℤ) (n : ℕ) → greatest ≡ int_max x y → unsigned_abs x < n → unsigned_abs y < n → unsigned_abs greatest < n
max-size x y greatest n is a b = elim (max-reached x y) [ inl e ↦ subst (λ (z : ℤ). unsigned_abs z < n) (sym (is ∙ e)) a | inr e ↦ subst (λ (z : ℤ). unsigned_abs z < n) (sym (is ∙ e)) b ]

pub tube-more : (line : Affine) (samples : List Sample) (n : ℕ) (low high r less more : ℤ) → TubeOver line samples n low high → r ≡ residual line (sample_at samples n)
    → less ≡ int_min low r → less ≤ℤ low → less ≤ℤ r → more ≡ int_max high r → high ≤ℤ more → r ≤ℤ more → TubeOver line samples (n + 1) less more
tube-more line samples n low high r less more tube e is_less less_low less_r is_more more_high more_r = record {
  least = elim (min-reached low r) [ inl same ↦ (tube.least.0, omega (arith, tube.least.1), tube.least.2 ∙ sym (is_less ∙ same)) | inr same ↦ (n, omega arith, sym e ∙ sym (is_less ∙ same)) ];
  greatest = elim (max-reached high r) [ inl same ↦ (tube.greatest.0, omega (arith, tube.greatest.1), tube.greatest.2 ∙ sym (is_more ∙ same)) | inr same ↦ (n, omega arith, sym e ∙ sym (is_more ∙ same)) ];
  about = λ place h. elim (split place n h) [ inl below ↦ within place (tube.about place below) | inr here ↦ at place here ];
}
  where
    split : (place n : ℕ) → place < n + 1 → (place < n) ⊎ (place ≡ n)
    split place n h = grind arith

    within : (place : ℕ) → (low ≤ℤ residual line (sample_at samples place)) × (residual line (sample_at samples place) ≤ℤ high) → (less ≤ℤ residual line (sample_at samples place)) × (residual line (sample_at samples place) ≤ℤ more)
    within place both = let c = both.0 in let d = both.1 in (omega (arith, ints), omega (arith, ints))

    at : (place : ℕ) → place ≡ n → (less ≤ℤ residual line (sample_at samples place)) × (residual line (sample_at samples place) ≤ℤ more)
    at place z =
        let same : r ≡ residual line (sample_at samples place) = e ∙ ap (λ (p : ℕ). residual line (sample_at samples p)) (sym z) in
        (omega (arith, ints), omega (arith, ints))

pub tube-whole : (line : Affine) (samples : List Sample) (n : ℕ) (low high : ℤ) → n ≡ length samples → TubeOver line samples n low high → IsTube line samples low high
tube-whole line samples n low high e tube = record {
  least = (tube.least.0, omega (arith, tube.least.1), tube.least.2);
  greatest = (tube.greatest.0, omega (arith, tube.greatest.1), tube.greatest.2);
  about = λ place h. tube.about place (omega arith);
}
