-- A plan of one tile that writes each address below a bound, and no other, may be posted over so many words.
use Rattle.std.proofs.Common.{◌≡◌, ℕ, zero, suc, ◌+◌, ◌<◌, Bool, true, false, true≢false, ◌||◌, List, [], ◌∷◌, ◌++◌, refl, sym, ap, ◌∙◌, subst, ⊎_elim, arith}
use mathlib.Core.Logic.{dite}
use native.Mathlib.Decide.{ℕ_discrete}
use Rattle.core_steps.specs.declared.plan.Tile.{Tile}
use Rattle.core_steps.specs.declared.plan.Plan.{Plan}
use Rattle.core_steps.specs.Numbers.{has}
use Rattle.core_steps.specs.Plans.{IsSeparate, IsInside, writes}
use Rattle.core_steps.proofs.NumberListLaws.{has-left, has-last, has-snoc}
use Rattle.words_bench.specs.Reach.{AreBelow}

pub below-none : AreBelow 0 []
below-none = (λ a below. absurd (omega (arith, below)), λ a h. absurd (true≢false (sym h)))

pub below-more : (n : ℕ) (xs : List ℕ) → AreBelow n xs → AreBelow (n + 1) (xs ++ n ∷ [])
below-more n xs h = (
  λ a below. dite (ℕ_discrete a n) (λ e. subst (λ (b : ℕ). has b (xs ++ n ∷ []) ≡ true) (sym e) (has-last n xs)) (λ ne. has-left a xs (n ∷ []) (h.0 a (omega (arith, below, ne)))),
  λ a is. ⊎_elim (λ e. omega (arith, e)) (λ was. let less = h.1 a was in omega (arith, less)) (has-snoc a n xs is),
)

pub ruleset addresses = (below-none, below-more)

one-tile-separate : (tile : Tile) → IsSeparate (record { tiles = tile ∷ [] })
one-tile-separate tile zero zero ne a w = absurd (ne refl)
one-tile-separate tile zero (suc k) ne a w = refl
one-tile-separate tile (suc j) k ne a w = absurd (true≢false (sym w))

abbrev pub writing : List ℕ → Plan
writing xs = record { tiles = record { reads = []; writes = xs } ∷ [] }

pub writing-separate : (xs : List ℕ) → IsSeparate (writing xs)
writing-separate xs = one-tile-separate (record { reads = []; writes = xs })

pub writing-inside : (n : ℕ) (xs : List ℕ) → AreBelow n xs → IsInside n (writing xs)
writing-inside n xs h zero a t = h.1 a t
writing-inside n xs h (suc k) a t = absurd (true≢false (sym t))

pub writing-all : (n : ℕ) (xs : List ℕ) → AreBelow n xs → (a : ℕ) → a < n → writes (writing xs) 0 a ≡ true
writing-all n xs h a below = h.0 a below
