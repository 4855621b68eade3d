-- Copies of the first instance.
use Rattle.std.proofs.Common.{◌≡◌, ℕ, zero, suc, ◌-◌, ◌*◌, ◌<◌, [], ◌∷◌, length, get_or, length-append, refl, ap, inl, inr, ⊎_elim, arith}
use Rattle.domain.specs.Instances.{Instance}
use Rattle.plain_lemmas.specs.Lists.{Has}
use Rattle.orders.specs.Tiles.{flat}
use Rattle.plain_lemmas.proofs.MembershipLaws.{has-cases}
use Rattle.verified_turns.specs.Progress.{list_of}
use Rattle.turns_bench.specs.Copies.{first, copies, tiles_of}

pub copies-next : (n : ℕ) → 0 < n → copies n ≡ first ∷ copies (n - 1)
copies-next zero some = absurd (omega (arith, some))
copies-next (suc n) some = let same : n ≡ suc n - 1 = omega arith in ap (λ (k : ℕ). first ∷ copies k) same

pub copies-long : (n : ℕ) → length (copies n) ≡ n
copies-long zero = refl
copies-long (suc n) = ap suc (copies-long n)

pub is-first : (n : ℕ) (x : Instance) → Has (copies n) x → x ≡ first
is-first zero x here = absurd here
is-first (suc n) x (inl e) = e
is-first (suc n) x (inr here) = is-first n x here

pub some-copy : (n : ℕ) (x : Instance) → Has (copies n) x → 0 < n
some-copy zero x here = absurd here
some-copy (suc n) x here = omega arith

pub tiles-long : (n each : ℕ) → length (tiles_of n each) ≡ n
tiles-long zero each = refl
tiles-long (suc n) each = ap suc (tiles-long n each)

pub tile-at : (n each k : ℕ) → k < n → get_or (tiles_of n each) k [] ≡ copies each
tile-at zero each k below = absurd (omega (arith, below))
tile-at (suc n) each zero below = refl
tile-at (suc n) each (suc k) below = tile-at n each k (omega (arith, below))

pub in-tile : (n each k : ℕ) (x : Instance) → Has (list_of (tiles_of n each) k) x → (k < n) × Has (copies each) x
in-tile zero each k x here = absurd here
in-tile (suc n) each zero x here = (omega arith, here)
in-tile (suc n) each (suc k) x here = let (below, there) = in-tile n each k x here in (omega (arith, below), there)

pub in-all : (n each : ℕ) (x : Instance) → Has (flat (tiles_of n each)) x → x ≡ first
in-all zero each x here = absurd here
in-all (suc n) each x here = ⊎_elim (is-first each x) (in-all n each x) (has-cases (copies each) (flat (tiles_of n each)) x here)

pub all-long : (n each : ℕ) → length (flat (tiles_of n each)) ≡ n * each
all-long zero each = omega arith
all-long (suc n) each =
    let one = copies-long each in
    let more = all-long n each in
    let both = length-append (copies each) (flat (tiles_of n each)) in
    omega (arith, one, more, both)
