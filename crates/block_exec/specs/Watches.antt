-- Watches: things that are shown, one after another.
use Rattle.std.specs.Prelude.{◌≡◌, ℤ, List, [], ◌∷◌}
use Rattle.nest_lang.specs.declared.tree.BlockRef.{BlockRef}
use Rattle.nest_lang.specs.declared.observe.Seen.{Seen}
use Rattle.nest_lang.specs.Traces.{Observation}

-- an observation of the instance of a block with these turn numbers
abbrev pub observed : BlockRef → List ℤ → Seen → ℤ → Observation
observed block counters what value = record { at = record { block = block; counters = counters }; what = what; value = value }

-- a chain of steps of a relation, one for each thing that was shown, in order
abbrev pub Chain : {W : Type 0} → (W → Observation → W → Type 0) → W → List Observation → W → Type 0
Chain may old [] new = new ≡ old
Chain {W} may old (o ∷ os) new = (mid : W) × may old o mid × Chain may mid os new
