-- Examples, computed: words that are kept, steps that are taken, and what a crew was handed.
use Rattle.std.specs.Prelude.{◌≡◌, ℤ, pos, negsuc, List, [], ◌∷◌, refl}
use Rattle.crew.specs.declared.handed.Handed.{Handed}
use Rattle.chunk_run.specs.Backups.{words_at}
use Rattle.chunk_run.specs.ChunkEnds.{AreTaken}
use Rattle.chunk_run.specs.Groups.{AreEntries, steps_of}

abbrev pub memory : List ℤ
memory = pos 5 ∷ pos 6 ∷ negsuc 6 ∷ []

pub the_words_are_kept : words_at memory (2 ∷ 0 ∷ []) ≡ record { address = 2; value = negsuc 6 } ∷ record { address = 0; value = pos 5 } ∷ []
the_words_are_kept = refl

-- 3 of 10 steps are taken, where 5 were used before
three-taken : AreTaken 3 (record { left = 10; used = 5 }) (record { left = 7; used = 8 })
three-taken = record { left = refl; used = refl }

-- none is taken
none-taken : AreTaken 0 (record { left = 0; used = 8 }) (record { left = 0; used = 8 })
none-taken = record { left = refl; used = refl }

-- ---- what a crew was handed

-- the phases 0 and 1 of a chunk from turn 8, by two workers: of three tiles in 40 steps, and of one tile in 9
abbrev pub first_phase : Handed
first_phase = record { first = pos 8; phase = 0; workers = 2; tiles = 3; steps = 40 }

abbrev pub second_phase : Handed
second_phase = record { first = pos 8; phase = 1; workers = 2; tiles = 1; steps = 9 }

two-phases : AreEntries (pos 8) 2 0 (3 ∷ 1 ∷ []) (first_phase ∷ second_phase ∷ [])
two-phases = (record { from = refl; with_workers = refl; of_phase = refl; over_tiles = refl }, (record { from = refl; with_workers = refl; of_phase = refl; over_tiles = refl }, tt))

their-steps : steps_of (first_phase ∷ second_phase ∷ []) ≡ 49
their-steps = refl

-- a phase less than there are numbers of tiles
not-all : AreEntries (pos 8) 2 0 (3 ∷ 1 ∷ []) (first_phase ∷ []) → ⊥
not-all h = h.1
