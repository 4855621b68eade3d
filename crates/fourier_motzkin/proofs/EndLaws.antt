-- What a row says of one variable, and ends that say the same.
use Rattle.std.proofs.Common.{◌≡◌, zero, suc, ℤ, pos, negsuc, neg_ℤ, ◌+ℤ◌, ◌*ℤ◌, ◌≤ℤ◌, ◌<ℤ◌, Option, ap, ◌∙◌, arith}
use Rattle.std.specs.Prelude.{◌↔◌}
use Rattle.std.specs.Int.{int_div_euclid}
use Rattle.std.proofs.Math.IntN.{*ℤ_comm}
use Rattle.std.proofs.lemmas.Int.{ints}
use Rattle.plain_lemmas.proofs.IntegerLaws.{*ℤ-neg_ℤ}
use Rattle.affine.proofs.FloorLaws.{non-negative-floor}
use Rattle.fourier_motzkin.specs.Ranges.{Lies}

-- c x + rest >= 0 for c > 0: x is at least the quotient of -rest, rounded up
pub bounded-below : (c rest x : ℤ) → pos 0 <ℤ c → (pos 0 ≤ℤ (rest +ℤ c *ℤ x)) ↔ (neg_ℤ (int_div_euclid rest c) ≤ℤ x)
bounded-below (pos zero) rest x some = absurd (omega (arith, ints))
bounded-below (pos (suc n)) rest x some =
    let both = non-negative-floor x rest n in (
      λ h. let k = both.0 (omega (arith, ints)) in omega (arith, ints, k),
      λ h. let k = both.1 (omega (arith, ints)) in omega (arith, ints, k),
    )
bounded-below (negsuc n) rest x some = absurd (omega (arith, ints))

-- c x + rest >= 0 for c < 0: x is at most the quotient of rest by -c, rounded down
pub bounded-above : (c rest x : ℤ) → c <ℤ pos 0 → (pos 0 ≤ℤ (rest +ℤ c *ℤ x)) ↔ (x ≤ℤ int_div_euclid rest (neg_ℤ c))
bounded-above (pos n) rest x some = absurd (omega (arith, ints))
bounded-above (negsuc n) rest x some =
    let both = non-negative-floor (neg_ℤ x) rest n in
    let turned = *ℤ-neg_ℤ (pos (suc n)) x in
    let minus : negsuc n *ℤ x ≡ neg_ℤ (pos (suc n) *ℤ x) = *ℤ_comm (negsuc n) x ∙ *ℤ-neg_ℤ x (pos (suc n)) ∙ ap neg_ℤ (*ℤ_comm x (pos (suc n))) in (
      λ h. let k = both.0 (omega (arith, ints)) in omega (arith, ints, k),
      λ h. let k = both.1 (omega (arith, ints)) in omega (arith, ints, k),
    )

-- narrowed ends, where the row says the same as a bound
pub narrowed-same : (least greatest least' greatest' : Option ℤ) (P Q : ℤ → Type 0) → ((x : ℤ) → Lies least' greatest' x ↔ (Lies least greatest x × Q x)) → ((x : ℤ) → P x ↔ Q x) → (x : ℤ) → Lies least' greatest' x ↔ (Lies least greatest x × P x)
narrowed-same least greatest least' greatest' P Q is same x = (
  λ h. let k = (is x).0 h in (k.0, (same x).1 k.1),
  λ h. (is x).1 (h.0, (same x).0 h.1),
)

pub narrowed-below : (least greatest least' greatest' : Option ℤ) (c rest l q : ℤ) → pos 0 <ℤ c → q ≡ int_div_euclid rest c → l ≡ neg_ℤ q → ((x : ℤ) → Lies least' greatest' x ↔ (Lies least greatest x × (l ≤ℤ x))) → (x : ℤ) → Lies least' greatest' x ↔ (Lies least greatest x × (pos 0 ≤ℤ (rest +ℤ c *ℤ x)))
narrowed-below least greatest least' greatest' c rest l q some e f is =
    narrowed-same least greatest least' greatest' (λ x. pos 0 ≤ℤ (rest +ℤ c *ℤ x)) (λ x. l ≤ℤ x) is
    (λ x. rw (f, e) (bounded-below c rest x some))

pub narrowed-above : (least greatest least' greatest' : Option ℤ) (c rest g d : ℤ) → c <ℤ pos 0 → d ≡ neg_ℤ c → g ≡ int_div_euclid rest d → ((x : ℤ) → Lies least' greatest' x ↔ (Lies least greatest x × (x ≤ℤ g))) → (x : ℤ) → Lies least' greatest' x ↔ (Lies least greatest x × (pos 0 ≤ℤ (rest +ℤ c *ℤ x)))
narrowed-above least greatest least' greatest' c rest g d some e f is =
    narrowed-same least greatest least' greatest' (λ x. pos 0 ≤ℤ (rest +ℤ c *ℤ x)) (λ x. x ≤ℤ g) is
    (λ x. rw (f, e) (bounded-above c rest x some))
