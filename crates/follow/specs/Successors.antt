-- Successors: what is expected after an instance of a chunk.
use Rattle.std.specs.Prelude.{ℕ, ℤ, List, [], ◌∷◌, length, if◌then◌else◌}
use Rattle.nest_lang.specs.declared.tree.Loop.{Loop}
use Rattle.nest_lang.specs.declared.state.Outer.{Outer}
use Rattle.nest_lang.specs.Turns.{turns_later}
use Rattle.follow.specs.Forecasts.{same_all, Forecast}
use Rattle.follow.specs.Plans.{planned, Item}
use Rattle.follow.specs.OriginalOrder.{key}

-- the scalars expected after an instance of a list, which is found by its key: those of the instance behind it, or
-- the closing ones
abbrev pub next_scalars : Forecast → (Item → List ℤ) → List Item → List ℤ → Item → List ℤ
next_scalars p k [] closing i = closing
next_scalars p k (x ∷ []) closing i = closing
next_scalars p k (x ∷ y ∷ ys) closing i = if same_all (k x) (k i) then p.scalars y.at else next_scalars p k (y ∷ ys) closing i

abbrev pub first_scalars : Forecast → List Item → List ℤ
first_scalars p [] = []
first_scalars p (x ∷ xs) = p.scalars x.at

-- the scalars expected of the first instance of the turn after the chunk
abbrev pub closing_scalars : Forecast → List Loop → Outer → ℕ → List ℤ
closing_scalars p loops o c = first_scalars p (planned p loops (turns_later o c) 1)

-- the scalars expected of the successor of an instance: the next instance of the chunk, and after its last one the
-- first instance of the turn after the chunk
abbrev pub successor_scalars : Forecast → List Loop → Outer → ℕ → Item → List ℤ
successor_scalars p loops o c = next_scalars p (key p (length loops)) (planned p loops o c) (closing_scalars p loops o c)
