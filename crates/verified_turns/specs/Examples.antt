-- Computed examples: a worker of core_steps' example, whose tile has one instance that stores 9 at word 1.
use Rattle.std.specs.Prelude.{◌≡◌, ℤ, pos, ◌==◌, false, Some, [], ◌∷◌, List, slice_set, refl}
use Rattle.core_steps.specs.Views.{lent_view}
use Rattle.core_steps.specs.Examples.{main, worker}
use Rattle.orders.specs.Runs.{Machine, follow}
use Rattle.orders.specs.Tiles.{flat}
use Rattle.shared_words.specs.Memories.{signed}
use Rattle.verified_turns.specs.Progress.{list_of, Went, IsLeftOfLast}

-- an instance is the value that it stores at word 1, in one step
abbrev pub stores : Machine ℤ
stores = record { size = 2; reads = λ x a. false; writes = λ x a. a == 1; run = λ x m. Some (record { memory = slice_set m 1 x; steps = 1 }) }

-- following one shows nothing else of it
abbrev pub Nothing : ℤ → Type 0
Nothing x = Unit {0}

abbrev pub nines : List (List ℤ)
nines = (pos 9 ∷ []) ∷ []

pub the_list_of_the_tile : list_of nines 0 ≡ pos 9 ∷ []
the_list_of_the_tile = refl

pub past_the_last_tile_is_nothing : list_of nines 1 ≡ []
past_the_last_tile_is_nothing = refl

-- the worker holds the tile, has followed its instance, and shows what that left
pub the_worker_went : Went stores Nothing nines worker [] 1
the_worker_went = record { done = pos 9 ∷ []; split = refl; each = λ x here. tt; ran = refl }

pub all_is_left_of_a_tile_just_claimed : IsLeftOfLast nines (0 ∷ []) (pos 9 ∷ [])
all_is_left_of_a_tile_just_claimed = record { front = []; tile = 0; begun = []; claimed = refl; split = refl }

pub a_new_worker_has_nothing_left : Went stores Nothing nines (lent_view main 1) [] 0
a_new_worker_has_nothing_left = record { done = []; split = refl; each = λ x here. tt; ran = refl }

pub the_phase_is_the_tile : follow stores (flat nines) (signed main.base) ≡ Some (record { memory = pos 5 ∷ pos 9 ∷ []; steps = 1 })
the_phase_is_the_tile = refl
