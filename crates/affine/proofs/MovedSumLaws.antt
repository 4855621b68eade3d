-- Sums of products after an exchange of two numbers, or after one number gains a multiple of another.
use Rattle.std.proofs.Common.{◌≡◌, ℕ, zero, suc, ◌<◌, ℤ, pos, ◌+ℤ◌, ◌-ℤ◌, ◌*ℤ◌, List, [], ◌∷◌, length, get_or, sym, ap, ap₂, ◌∙◌, subst, ⊎_elim, arith}
use Rattle.std.specs.List.{swap}
use Rattle.std.proofs.Math.IntN.{*ℤ_comm}
use Rattle.std.proofs.Math.ListN.{set, length-set}
use Rattle.std.proofs.lemmas.Bool.{cases_eq}
use Rattle.std.proofs.lemmas.Int.{ints}
use Rattle.std.proofs.lemmas.List.{get_or-set_same, get_or-set_other}
use Rattle.std.proofs.lemmas.List.Edits.{swap_is}
use Rattle.plain_lemmas.proofs.IntegerLaws.{*ℤ_assoc, +ℤ-*ℤ, -ℤ-*ℤ, one-*ℤ}
use Rattle.affine.specs.Sums.{dot}
use Rattle.affine.proofs.MoveLaws.{gained}
use Rattle.affine.proofs.SumLaws.{dot-comm}

-- ---- one number of a sum is changed

change : (x y v d : ℤ) → v *ℤ y +ℤ d ≡ (x *ℤ y +ℤ d) +ℤ (v -ℤ x) *ℤ y
change x y v d =
    let whole : x +ℤ (v -ℤ x) ≡ v = omega (arith, ints) in
    let parts : v *ℤ y ≡ x *ℤ y +ℤ (v -ℤ x) *ℤ y = ap (λ (z : ℤ). z *ℤ y) (sym whole) ∙ +ℤ-*ℤ x (v -ℤ x) y in
    omega (arith, ints, parts)

pub dot-set : (xs ys : List ℤ) (a : ℕ) (v : ℤ) → a < length xs → a < length ys → dot (set xs a v) ys ≡ dot xs ys +ℤ (v -ℤ get_or xs a (pos 0)) *ℤ get_or ys a (pos 0)
dot-set [] ys a v inside also = absurd (omega arith)
dot-set (x ∷ xs) [] a v inside also = absurd (omega arith)
dot-set (x ∷ xs) (y ∷ ys) zero v inside also = change x y v (dot xs ys)
dot-set (x ∷ xs) (y ∷ ys) (suc a) v inside also =
    let rest = dot-set xs ys a v (omega arith) (omega arith) in
    omega (arith, ints, rest)

-- ---- the gain of one side is the gain of the other

swap-sides : (m u v w : ℤ) → m *ℤ u *ℤ v ≡ m *ℤ v *ℤ u
swap-sides m u v w = *ℤ_assoc m u v ∙ ap (λ (z : ℤ). m *ℤ z) (*ℤ_comm u v) ∙ sym (*ℤ_assoc m v u)

gain : (m x y : ℤ) → (pos 1 *ℤ x +ℤ m *ℤ y) -ℤ x ≡ m *ℤ y
gain m x y = let one = one-*ℤ x in omega (arith, ints, one)

pub dot-gained : (z y : List ℤ) (a b : ℕ) (m : ℤ) → a < length z → b < length z → length z ≡ length y → dot (gained z b a m) y ≡ dot z (gained y a b m)
unfolding gained
dot-gained z y a b m in-a in-b long =
    let first = dot-set z y b (pos 1 *ℤ get_or z b (pos 0) +ℤ m *ℤ get_or z a (pos 0)) in-b (omega (arith, long, in-b)) in
    let second = dot-set y z a (pos 1 *ℤ get_or y a (pos 0) +ℤ m *ℤ get_or y b (pos 0)) (omega (arith, long, in-a)) in-a in
    first
    ∙ ap₂ (λ (s t : ℤ). s +ℤ t) (dot-comm z y)
    (ap (λ (g : ℤ). g *ℤ get_or y b (pos 0)) (gain m (get_or z b (pos 0)) (get_or z a (pos 0))) ∙ swap-sides m (get_or z a (pos 0)) (get_or y b (pos 0)) (pos 0)
    ∙ ap (λ (g : ℤ). g *ℤ get_or z a (pos 0)) (sym (gain m (get_or y a (pos 0)) (get_or y b (pos 0)))))
    ∙ sym second ∙ dot-comm (set y a (pos 1 *ℤ get_or y a (pos 0) +ℤ m *ℤ get_or y b (pos 0))) z

-- ---- an exchange on one side is the exchange on the other

crossed : (d za zb ya yb : ℤ) → (d +ℤ (zb -ℤ za) *ℤ ya) +ℤ (za -ℤ zb) *ℤ yb ≡ (d +ℤ (yb -ℤ ya) *ℤ za) +ℤ (ya -ℤ yb) *ℤ zb
crossed d za zb ya yb =
    let p = -ℤ-*ℤ zb za ya in
    let q = -ℤ-*ℤ za zb yb in
    let r = -ℤ-*ℤ yb ya za in
    let s = -ℤ-*ℤ ya yb zb in
    let t = *ℤ_comm zb ya in
    let u = *ℤ_comm za ya in
    let v = *ℤ_comm za yb in
    let w = *ℤ_comm zb yb in
    omega (arith, ints, p, q, r, s, t, u, v, w)

swapped-at : (z : List ℤ) (a b : ℕ) → b < length z → get_or (set z a (get_or z b (pos 0))) b (pos 0) ≡ get_or z b (pos 0)
swapped-at z a b inside = ⊎_elim
    (λ e. subst (λ (i : ℕ). get_or (set z i (get_or z b (pos 0))) b (pos 0) ≡ get_or z b (pos 0)) e (get_or-set_same z b (get_or z b (pos 0)) (pos 0) inside))
    (λ apart. get_or-set_other z a b (get_or z b (pos 0)) (pos 0) apart)
    (cases_eq b a)

dot-swapped : (z y : List ℤ) (a b : ℕ) → a < length z → b < length z → length z ≡ length y → dot (swap z a b) y ≡ (dot z y +ℤ (get_or z b (pos 0) -ℤ get_or z a (pos 0)) *ℤ get_or y a (pos 0)) +ℤ (get_or z a (pos 0) -ℤ get_or z b (pos 0)) *ℤ get_or y b (pos 0)
dot-swapped z y a b in-a in-b long =
    let size = length-set z a (get_or z b (pos 0)) in
    ap (λ (l : List ℤ). dot l y) (sym (swap_is z a b (pos 0) in-a in-b))
    ∙ dot-set (set z a (get_or z b (pos 0))) y b (get_or z a (pos 0)) (omega (arith, size, in-b)) (omega (arith, long, in-b))
    ∙ ap₂ (λ (s t : ℤ). s +ℤ (get_or z a (pos 0) -ℤ t) *ℤ get_or y b (pos 0)) (dot-set z y a (get_or z b (pos 0)) in-a (omega (arith, long, in-a))) (swapped-at z a b in-b)

pub dot-swap : (z y : List ℤ) (a b : ℕ) → a < length z → b < length z → length z ≡ length y → dot (swap z a b) y ≡ dot z (swap y a b)
dot-swap z y a b in-a in-b long =
    dot-swapped z y a b in-a in-b long
    ∙ crossed (dot z y) (get_or z a (pos 0)) (get_or z b (pos 0)) (get_or y a (pos 0)) (get_or y b (pos 0))
    ∙ ap (λ (d : ℤ). (d +ℤ (get_or y b (pos 0) -ℤ get_or y a (pos 0)) *ℤ get_or z a (pos 0)) +ℤ (get_or y a (pos 0) -ℤ get_or y b (pos 0)) *ℤ get_or z b (pos 0)) (dot-comm z y)
    ∙ sym (dot-swapped y z a b (omega (arith, long, in-a)) (omega (arith, long, in-b)) (sym long))
    ∙ dot-comm (swap y a b) z
