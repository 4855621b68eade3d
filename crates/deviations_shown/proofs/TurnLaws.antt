-- Turns that the outermost loop has.
use Rattle.std.proofs.Common.{◌≡◌, ℕ, ◌≤◌, List, [], ◌∷◌, Some, sym, subst}
use Rattle.std.specs.Prelude.{Option}
use Rattle.nest_lang.specs.declared.tree.Head.{Head}
use Rattle.nest_lang.specs.declared.tree.Head.TheVariants.{For, While}
use Rattle.nest_lang.specs.declared.tree.Loop.{Loop}
use Rattle.nest_lang.specs.declared.state.Outer.{Outer}
use Rattle.nest_lang.specs.Turns.{IsPosition, IsPositionIn, number_left}
use Rattle.follow.specs.ChunkRuns.{HasTurns, HasTurnsIn}

-- a loop has so many turns left, where no fewer are counted
pub turns-counted : (loops : List Loop) (o : Outer) (c : ℕ) → IsPositionIn loops o → ((n : ℕ) → o.left ≡ Some n → c ≤ n) → HasTurnsIn loops o c
turns-counted [] o c position most = tt
turns-counted (l ∷ ls) o c position most = by l.head position
  where
    by : (h : Head) → IsPosition h o → HasTurns h o c
    by (For lower upper stride) (t, n, next, left, fits) = subst (λ (z : Option ℕ). c ≤ number_left z) (sym left) (most n left)
    by (While condition) position = tt
